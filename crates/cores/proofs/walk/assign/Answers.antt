use Rattle.std.proofs.Common.{arith}
use Rattle.cores.specs.Walk.{ready_count}
use Rattle.cores.proofs.WalkLaws.{walk_full, walk_all}
use Rattle.cores.proofs.walk.assign.Goals.{then-loop-walk-test+else-walk-ready, else-loop-walk-test}
use Rattle.cores.proofs.walk.assign.Goals as goal

pub loop-walk-init : goal.loop-walk-init
unfolding ready_count
loop-walk-init c = (c.assign_kept-walk.ensures.0, c.count_below-ready.ensures.0, c.ranks_singly-ranks.ensures)

pub returns : goal.returns
returns c =
    let l = c.loop-walk in
    let a = c.args in
    elim c.loop-walk-test.branch [
      | then-loop-walk-test+else-walk-ready w ↦
          walk_all a.places a.m l.invariant.0 (omega (arith, l.invariant.1, w.if-walk-ready.false)) (omega (arith, w.loop-walk-test.true))
      | else-loop-walk-test w ↦ walk_full a.places a.m l.invariant.0 (omega (arith, w.loop-walk-test.false))
    ]
