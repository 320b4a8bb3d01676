use mathlib.Core.Path.{refl}
use lib.IntN.{pos}
use lib.ListN.{get_or}
use Rattle.lists.proofs.Fill.{filled_start, filled_store, filled_end}
use Rattle.jobs.proofs.Signed.{back}
use Rattle.tasks.specs.Places.{before_in}
use Rattle.tasks.proofs.Place.{earlier_turn, earlier_room}
use native.Mathlib.Omega.{arith}
use Rattle.tasks.proofs.places.count_job.Goals as goal

pub loop-i-init : goal.loop-i-init
loop-i-init c = filled_start refl

pub overflow_add-out : goal.overflow_add-out
overflow_add-out c =
    let a = c.args in
    rw c.from.ensures (earlier_room a.keys a.ages a.j c.loop-i.i c.requires.1 (omega arith) c.goes_before.result (omega arith))

pub loop-i-preserved : goal.loop-i-preserved
unfolding before_in
loop-i-preserved c =
    let a = c.args in
    let h = c.loop-i in
    let e =
    rw
    (back (get_or a.keys a.j (pos 0)) c.goes_before-arg-1.given, back (get_or a.ages a.j (pos 0)) c.goes_before-arg-in-loop-i-1.given, back (get_or a.keys h.i (pos 0)) c.goes_before-arg-in-loop-i-2-1.given, back (get_or a.ages h.i (pos 0)) c.goes_before-arg-in-loop-i-3-1.given)
    at c.goes_before.ensures in
    filled_store h.invariant (omega arith) (rw c.from.ensures (earlier_turn a.keys a.ages a.j h.i c.requires.1 (omega arith) e))

pub returns : goal.returns
returns c = filled_end c.loop-i.invariant (omega arith)
