-- The invariant: what the lines lack of the room is what the lines to come lack of what is left of it. Assumes nothing.
use Prim.Native.Nat.{◌+◌}
use mathlib.Core.Path.{◌≡◌}
use lib.ListN.{length, drop}
use Rattle.lines.specs.Lines.{mask_lines}
use Rattle.lines.proofs.text.masks_fit.Given as goal

abbrev pub invariant-loop-mask : goal.invariant-loop-mask
invariant-loop-mask l = length (mask_lines l.masks) + l.left ≡ length (mask_lines (drop l.mask-index l.masks)) + l.room
