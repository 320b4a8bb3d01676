use Rattle.tasks.specs.State.{keeps}
use Rattle.tasks.proofs.state.State.keeps.Goals as goal

pub returns : goal.returns
unfolding keeps
returns c = cc
