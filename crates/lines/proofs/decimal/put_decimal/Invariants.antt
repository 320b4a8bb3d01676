-- The invariant: the digits that are left, stored before those that are, are the whole. Assumes nothing.
use Prim.Native.Nat.{◌+◌, ◌<◌}
use mathlib.Core.Path.{◌≡◌}
use lib.ListN.{length}
use lib.Seq.{sets}
use Rattle.lines.specs.Lines.{decimal}
use Rattle.lines.proofs.decimal.put_decimal.Given as goal

abbrev pub invariant-loop-rest : goal.invariant-loop-rest
invariant-loop-rest l =
    (sets l.out l.at (decimal l.rest) ≡ sets l.initial.out l.at (decimal l.x)) × (l.at + length (decimal l.rest) ≡ l.i + 1) × (length l.out ≡ length l.initial.out) × (l.i < length l.out)

abbrev pub decreases-loop-rest : goal.decreases-loop-rest
decreases-loop-rest l = l.rest
