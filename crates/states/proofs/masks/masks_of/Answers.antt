-- The first mask is 0. Assumes nothing.
use Rattle.std.proofs.Common.{refl, arith}
use Rattle.states.proofs.MaskLaws.{no_bits}
use Rattle.states.proofs.masks.masks_of.Goals as goal

pub returns : goal.returns
returns c = record { start = (record { small = omega arith; most = omega arith; is = λ h. no_bits c.args.free (omega arith) }, refl, refl) }
