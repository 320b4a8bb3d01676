-- The invariant: the rows of the first i tasks are written. Assumes nothing.
use Prim.Native.Nat.{◌≤◌}
use mathlib.Core.Path.{◌≡◌}
use lib.ListN.{length}
use lib.Seq.{sets}
use Rattle.service.specs.Bytes.{rows_of}
use Rattle.service.proofs.bytes.put_rows.Given as goal

abbrev pub invariant-loop-i : goal.invariant-loop-i
invariant-loop-i l = (192 ≤ length l.initial.out) × (length l.out ≡ length l.initial.out) × (l.out ≡ sets l.initial.out 0 (rows_of l.x l.i))
