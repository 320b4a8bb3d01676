-- The invariant: task j is counted for the first i. Assumes nothing.
use Prim.Native.Nat.{◌+◌}
use Rattle.lists.proofs.Fill.{Filled}
use Rattle.tasks.specs.Places.{earlier_in}
use Rattle.tasks.proofs.places.count_job.Given as goal

abbrev pub invariant-loop-i : goal.invariant-loop-i
invariant-loop-i l = Filled 0 (earlier_in l.keys l.ages (l.j + 1)) l.out l.i
