use Rattle.lists.proofs.Fill.{Filled}
use Rattle.cores.specs.Walk.{rank}
use Rattle.cores.proofs.walk.ranks_singly.Given as goal

abbrev pub invariant-loop-i : goal.invariant-loop-i
invariant-loop-i l = Filled 0 (rank l.places 8) l.out l.i
