use Rattle.tasks.specs.Tick.{illegal_at}
use Rattle.tasks.proofs.state.State.illegal_at.Goals as goal

pub returns : goal.returns
unfolding illegal_at
returns c = cc
