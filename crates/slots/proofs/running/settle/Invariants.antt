-- The invariant: the first slots have their parents, and where some are left the blocks before b have ended. Assumes nothing.
use Prim.Native.Nat.{◌<◌, ◌≤◌}
use mathlib.Core.Path.{◌≡◌}
use lib.ListN.{length}
use Rattle.slots.specs.Running.{Ended, Settling}
use Rattle.slots.proofs.running.settle.Given as goal

abbrev pub invariant-loop-b : goal.invariant-loop-b
invariant-loop-b l = (l.from ≤ l.n) × (length l.work ≡ length l.initial.work) × (l.from < l.n → Ended l.ends l.b l.from) × Settling l.k l.ends l.initial.work l.work l.from
