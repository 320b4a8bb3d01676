use mathlib.Core.Path.{◌∙◌}
use Rattle.std.proofs.Common.{rules}
use Rattle.session_bytes.proofs.SpaceLaws.{state_after}
use Rattle.session_bytes.proofs.read.state_at.Goals as goal

pub returns : goal.returns
returns c =
    let a = c.args in
    c.of_words.ensures ∙ c.words_in.ensures ∙ state_after a.space.now a.j (search rules)
