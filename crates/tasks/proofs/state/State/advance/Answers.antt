use Rattle.tasks.specs.Tick.{after}
use Rattle.tasks.proofs.state.State.advance.Goals as goal

pub returns : goal.returns
unfolding after
returns c = cc
