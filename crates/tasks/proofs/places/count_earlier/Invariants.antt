-- The invariant: the first j tasks are counted. Assumes nothing.
use mathlib.Core.Path.{◌≡◌}
use Rattle.lists.specs.Lists.{eight}
use Rattle.tasks.specs.Places.{earlier_in}
use Rattle.tasks.proofs.places.count_earlier.Given as goal

abbrev pub invariant-loop-j : goal.invariant-loop-j
invariant-loop-j l = l.counts ≡ eight (earlier_in l.keys l.ages l.j)
