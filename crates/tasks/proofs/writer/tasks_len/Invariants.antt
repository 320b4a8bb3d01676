-- The invariant: the total so far and the length of the tasks that are left make the whole length. Assumes nothing.
use Rattle.tasks.specs.Sheet.{tasks_bytes}
use lib.ListN.{length}
use mathlib.Core.Path.{◌≡◌}
use Prim.Native.Nat.{◌+◌, ◌-◌, ◌*◌, ◌≤◌}
use Rattle.tasks.proofs.writer.tasks_len.Given as goal

abbrev pub invariant-loop-i : goal.invariant-loop-i
invariant-loop-i l =
    (l.total ≤ 6 * l.i) × (length (tasks_bytes l.t l.t.n 0) ≡ l.total + length (tasks_bytes l.t (l.t.n - l.i) l.i))
