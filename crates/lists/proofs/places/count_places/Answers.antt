use Rattle.std.proofs.Common.{arith}
use Rattle.lists.proofs.Turns.{count_none, count_turn, bool_byte_one}
use Rattle.lists.proofs.places.count_places.Goals as goal

pub loop-i-init : goal.loop-i-init
loop-i-init g c = (omega arith, λ p h. count_none p)

pub loop-i-preserved : goal.loop-i-preserved
loop-i-preserved g c = (
  rw c.from-n.ensures (omega (arith, bool_byte_one c.test.result)),
  λ p h. rw c.from-n.ensures (count_turn p c.loop-i.i (c.loop-i.invariant.1 p h) (h c.loop-i.i _ c.loop-i-test.true c.test.ensures)),
)
