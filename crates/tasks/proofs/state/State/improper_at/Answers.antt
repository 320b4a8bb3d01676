use Rattle.tasks.specs.State.{improper_at}
use Rattle.tasks.proofs.state.State.improper_at.Goals as goal

pub returns : goal.returns
unfolding improper_at
returns c = rw (c.from-n.ensures, c.late.ensures)
