-- The invariant: the first masks are cut. Assumes nothing.
use Rattle.cut.proofs.MaskLaws.{Cutting}
use Rattle.cut.proofs.masks.cut_list.Given as goal

abbrev pub invariant-loop-mask : goal.invariant-loop-mask
invariant-loop-mask l = Cutting l.k l.initial.masks l.masks l.mask-index
