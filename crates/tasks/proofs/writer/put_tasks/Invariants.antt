-- The invariant: what is left to store, stored from the present place, is the whole. Assumes nothing.
use Rattle.tasks.proofs.Stores.{Storing}
use Rattle.tasks.specs.Sheet.{tasks_bytes}
use Prim.Native.Nat.{◌-◌}
use Rattle.tasks.proofs.writer.put_tasks.Given as goal

abbrev pub invariant-loop-i : goal.invariant-loop-i
invariant-loop-i l = Storing l.initial.out l.initial.at (tasks_bytes l.t l.t.n 0) l.out l.at (tasks_bytes l.t (l.t.n - l.i) l.i)
