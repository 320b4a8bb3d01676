-- The invariant: the first i tasks are read off the walk. Assumes nothing.
use mathlib.Core.Bool.{false}
use lib.Dec.{ltb}
use lib.ListN.{get_or}
use Rattle.lists.proofs.Fill.{Filled}
use Rattle.tasks.proofs.state.State.choose.Given as goal

abbrev pub invariant-loop-i : goal.invariant-loop-i
invariant-loop-i l = Filled false (λ i. ltb 0 (get_or l.given i 0)) l.run l.i
