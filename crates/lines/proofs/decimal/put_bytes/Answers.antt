-- The bytes stand in the part of the output that they fill. Assumes nothing.
use mathlib.Core.Path.{refl}
use Rattle.lines.proofs.Places.{sets_mid}
use Rattle.lines.proofs.decimal.put_bytes.Goals as goal

pub returns : goal.returns
returns c = (refl, sets_mid c.args.out.now c.args.at c.args.s.now c.copy_from_slice.new.self c.requires c.copy_from_slice.ensures.after)
