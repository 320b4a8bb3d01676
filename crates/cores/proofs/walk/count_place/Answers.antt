use Rattle.lists.proofs.Fill.{filled_store, filled_end}
use Rattle.cores.proofs.RankLaws.{rank_turn, rank_room}
use native.Mathlib.Omega.{arith}
use Rattle.cores.proofs.walk.count_place.Goals as goal

pub overflow_add-out : goal.overflow_add-out
overflow_add-out c =
    let a = c.args in
    rw c.from.ensures (rank_room a.places a.i c.loop-j.j c.requires.1 c.loop-j-test.true c.sooner.result (omega arith))

pub loop-j-preserved : goal.loop-j-preserved
loop-j-preserved c =
    let a = c.args in
    filled_store c.loop-j.invariant (omega arith) (rw c.from.ensures (rank_turn a.places a.i c.loop-j.j c.requires.1 (omega arith) c.sooner.ensures))

pub returns : goal.returns
returns c = filled_end c.loop-j.invariant (omega arith)
