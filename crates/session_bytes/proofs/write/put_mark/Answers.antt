use Prim.Native.Nat.{◌+◌}
use mathlib.Core.Path.{sym, ap, ◌∙◌}
use lib.ListN.{get_or}
use Rattle.std.specs.Prelude.{None}
use Rattle.session.proofs.MarkLaws.{by_stored}
use Rattle.session_bytes.specs.Space.{stored_written, mark_written}
use Rattle.session_bytes.proofs.write.put_mark.Goals as goal

pub returns-in-Some : goal.returns-in-Some
unfolding mark_written
returns-in-Some c =
    let a = c.args in
    c.put_state.ensures ∙ ap (λ o. stored_written o (a.i + 1) a.space.now) (sym c.in-Some.is)

pub returns-in_default : goal.returns-in_default
unfolding mark_written
returns-in_default c =
    let a = c.args in
    by_stored (get_or a.x.marks a.i None) (λ e. rw e) (λ s e. absurd (c.in_default.not-Some s e))
