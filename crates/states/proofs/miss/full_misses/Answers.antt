-- The full mask is ticked. Assumes nothing.
use Rattle.states.specs.Miss.{full_by}
use Rattle.states.proofs.miss.full_misses.Goals as goal

pub returns : goal.returns
unfolding full_by
returns c = rw (c.after.ensures, c.prepare.ensures, c.free.ensures) at c.misses.ensures
