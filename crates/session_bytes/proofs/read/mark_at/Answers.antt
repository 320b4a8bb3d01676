use mathlib.Core.Path.{◌∙◌}
use Prim.Native.Nat.{◌+◌}
use Rattle.std.proofs.Common.{rules}
use Rattle.states.specs.Bytes.{state_from}
use Rattle.session.proofs.MarkLaws.{stored_where}
use Rattle.session_bytes.specs.Space.{place, mark_from}
use Rattle.session_bytes.proofs.read.mark_at.Goals as goal

pub returns : goal.returns
unfolding mark_from
returns c =
    let a = c.args in
    stored_where c.then.result (state_from a.space.now (place (a.i + 1))) (c.then.ensures.variant ∙ c.has_bit.ensures) c.then.ensures.some (λ s h. search rules)
