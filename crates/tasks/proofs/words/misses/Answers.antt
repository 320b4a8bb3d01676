use Rattle.std.proofs.Common.{rules, ◌∙◌}
use Rattle.tasks.specs.State.{late}
use Rattle.tasks.specs.Tick.{missed}
use Rattle.tasks.specs.Words.{state_of}
use Rattle.tasks.proofs.InWords.{late_word}
use Rattle.tasks.proofs.words.misses.Goals as goal

pub returns : goal.returns
unfolding missed
returns c =
    let t = c.args.t in
    let v = c.args.v in
    c.any_place.ensures (late t (state_of v)) (λ i b h k. (search rules) ∙ late_word v i h t)
