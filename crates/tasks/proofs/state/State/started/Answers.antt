use mathlib.Core.Path.{refl}
use Rattle.tasks.specs.State.{started}
use Rattle.tasks.proofs.state.State.started.Goals as goal

pub returns : goal.returns
unfolding started
returns c = refl
