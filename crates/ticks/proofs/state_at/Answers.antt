use Rattle.ticks.specs.Ticks.{state_in}
use Rattle.ticks.proofs.state_at.Goals as goal

pub returns : goal.returns
unfolding state_in
returns c = rw (c.bytes_from.ensures, c.bytes_from-2.ensures)
