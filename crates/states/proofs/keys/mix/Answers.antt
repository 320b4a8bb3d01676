-- The sum of four products fits. Assumes nothing.
use Rattle.std.proofs.Common.{refl}
use Rattle.states.specs.Keys.{mixed}
use Rattle.states.proofs.keys.mix.Goals as goal

pub returns : goal.returns
unfolding mixed
returns c = refl
