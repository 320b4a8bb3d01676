-- The invariant: what is left to store, stored from the present place, is the whole. Assumes nothing.
use lib.ListN.{drop}
use Rattle.tasks.proofs.Stores.{Storing}
use Rattle.lines.specs.Lines.{mask_lines}
use Rattle.lines.proofs.text.put_masks.Given as goal

abbrev pub invariant-loop-mask : goal.invariant-loop-mask
invariant-loop-mask l = Storing l.initial.out l.from (mask_lines l.masks) l.out l.at (mask_lines (drop l.mask-index l.masks))
