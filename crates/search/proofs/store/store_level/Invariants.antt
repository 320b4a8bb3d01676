-- The invariant: the successors of the slots passed are stored, block by block. Assumes nothing.
use mathlib.Core.Path.{◌≡◌}
use Prim.Native.Nat.{◌-◌, ◌≤◌}
use lib.ListN.{length}
use Rattle.search.proofs.StoreLaws.{LevelTo}
use Rattle.search.proofs.store.store_level.Given as goal

abbrev pub invariant-loop-i : goal.invariant-loop-i
invariant-loop-i l =
    (l.i ≤ l.hi) × (length l.heads ≡ length l.initial.heads) × (length l.ends ≡ length l.initial.ends) × LevelTo l.ticking.table l.k l.initial.ends l.ends l.initial.work l.work l.heads l.lo l.hi l.n l.i

abbrev pub decreases-loop-i : goal.decreases-loop-i
decreases-loop-i l = l.hi - l.i
