use Prim.Native.Nat.{◌+◌}
use Rattle.cores.specs.Walk.{rank}
use Rattle.lists.proofs.Fill.{Filled}
use Rattle.cores.proofs.walk.count_place.Given as goal

abbrev pub invariant-loop-j : goal.invariant-loop-j
invariant-loop-j l = Filled 0 (rank l.places (l.i + 1)) l.out l.j
