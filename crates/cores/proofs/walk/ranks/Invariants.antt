use mathlib.Core.Path.{◌≡◌}
use Rattle.lists.specs.Lists.{eight}
use Rattle.cores.specs.Walk.{rank}
use Rattle.cores.proofs.walk.ranks.Given as goal

abbrev pub invariant-loop-i : goal.invariant-loop-i
invariant-loop-i l = l.ranks ≡ eight (rank l.places l.i)
