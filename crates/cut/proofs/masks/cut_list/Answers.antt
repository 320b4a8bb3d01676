use native.Mathlib.Omega.{arith}
use Rattle.cut.proofs.MaskLaws.{cutting_end}
use Rattle.cut.proofs.masks.cut_list.Goals as goal

pub returns : goal.returns
returns c = cutting_end _ c.loop-mask.invariant (omega arith)
