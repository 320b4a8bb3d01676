use Rattle.lists.proofs.Turns.{any_none, any_turn}
use Rattle.lists.proofs.places.any_place.Goals as goal

pub loop-i-init : goal.loop-i-init
loop-i-init g c p h = any_none p

pub loop-i-preserved : goal.loop-i-preserved
loop-i-preserved g c p h = any_turn p c.loop-i.i (c.loop-i.invariant p h) (h c.loop-i.i _ c.loop-i-test.true c.test-found.ensures)
