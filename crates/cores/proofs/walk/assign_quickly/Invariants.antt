-- The invariant: the walk has chosen the first tasks in order, as many as processors are given out, and not more than m. Assumes nothing.
use Prim.Native.Nat.{◌-◌, ◌<◌}
use mathlib.Core.Path.{◌≡◌}
use Rattle.lists.specs.Lists.{eight}
use Rattle.cores.specs.Walk.{rank, ready_count, Walked}
use Rattle.cores.proofs.walk.assign_quickly.Given as goal

abbrev pub invariant-loop-walk : goal.invariant-loop-walk
invariant-loop-walk l = Walked l.places l.m l.walk.run l.walk.count × (l.m < ready_count l.places) × (l.ranks ≡ eight (rank l.places 8))

abbrev pub decreases-loop-walk : goal.decreases-loop-walk
decreases-loop-walk l = l.m - l.walk.count
