-- The next submask in increasing order. Assumes nothing.
use Rattle.std.proofs.Common.{refl}
use Rattle.states.specs.Masks.{next_mask}
use Rattle.states.proofs.masks.next_mask.Goals as goal

pub returns : goal.returns
unfolding next_mask
returns c = refl
