-- The invariant: the successors of the slots passed are stored. Assumes nothing.
use mathlib.Core.Path.{◌≡◌}
use lib.ListN.{length}
use Rattle.search.proofs.StoreLaws.{BlockTo}
use Rattle.search.proofs.store.store_block.Given as goal

abbrev pub invariant-loop-i : goal.invariant-loop-i
invariant-loop-i l = (length l.heads ≡ length l.initial.heads) × BlockTo l.ticking.table l.k l.initial.work l.work l.heads l.from l.n l.lo l.hi l.i
