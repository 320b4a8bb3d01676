-- The invariant: what is left to read, with the table so far, gives what the whole gives. Assumes nothing.
use Rattle.tasks.specs.Sheet.{tasks_from}
use mathlib.Core.Path.{◌≡◌}
use Prim.Native.Nat.{◌-◌}
use Rattle.tasks.proofs.sheet.read_tasks.Given as goal

abbrev pub invariant-loop-i : goal.invariant-loop-i
invariant-loop-i l = tasks_from l.n 0 l.initial.t l.s l.initial.at ≡ tasks_from (l.n - l.i) l.i l.t l.s l.at
