-- The invariant: the books of a level; each exit is an event of the search that gives its verdict. Assumes nothing.
use mathlib.Core.Path.{◌≡◌}
use Prim.Native.Nat.{◌-◌}
use lib.ListN.{length}
use Rattle.search.proofs.RunLaws.{Stands}
use Rattle.search.proofs.run.run_levels.Given as goal

abbrev pub invariant-loop-slot : goal.invariant-loop-slot
invariant-loop-slot l = (length l.heads ≡ length l.initial.heads) × (length l.ends ≡ length l.initial.ends) × Stands l.ticking.table l.k l.ends l.initial.work l.work l.heads l.lo l.hi l.depth

abbrev pub decreases-loop-slot : goal.decreases-loop-slot
decreases-loop-slot l = l.k - l.hi
