-- The invariant: the pairs due of the states passed lead to states of the file where the keys that wait are held. Assumes nothing.
use Prim.Native.Nat.{◌<◌, ◌≤◌}
use mathlib.Core.Path.{◌≡◌}
use lib.ListN.{length}
use Rattle.closed.proofs.InsideLaws.{RowsTo}
use Rattle.closed.proofs.PendingLaws.{Waiting}
use Rattle.closed.proofs.passes.rows_inside.Given as goal

abbrev pub invariant-loop-row : goal.invariant-loop-row
invariant-loop-row l = (length l.pending ≡ 320) × (l.count < 64) × (l.file.n ≤ l.row → l.count ≡ 0) × Waiting l.ticking.table l.file.bytes.now l.file.n (RowsTo l.ticking.table l.file.bytes.now l.split l.pass l.row) l.pending l.count
