-- The invariant: what is left of the tasks' numbers, stored from the present place, is all of them. Assumes nothing.
use Prim.Native.Nat.{◌+◌, ◌-◌, ◌*◌}
use Rattle.tasks.proofs.Stores.{Storing}
use Rattle.ronchhek.specs.Tables.{entries}
use Rattle.ronchhek.proofs.tables.put_table.Given as goal

abbrev pub invariant-loop-i : goal.invariant-loop-i
invariant-loop-i l = Storing l.initial.out 3 (entries l.t 8 0) l.out (3 + 3 * l.i) (entries l.t (8 - l.i) l.i)
