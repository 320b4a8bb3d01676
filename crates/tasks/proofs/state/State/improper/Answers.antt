use Rattle.tasks.specs.State.{improper}
use Rattle.tasks.proofs.state.State.improper.Goals as goal

pub returns : goal.returns
unfolding improper
returns c = cc
