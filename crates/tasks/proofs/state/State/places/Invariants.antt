-- The invariant: the first i places are made. Assumes nothing.
use mathlib.Core.Path.{◌≡◌}
use Rattle.lists.specs.Lists.{eight}
use Rattle.lists.proofs.Fill.{Filled}
use Rattle.tasks.specs.Places.{place, earlier}
use Rattle.tasks.proofs.state.State.places.Given as goal

abbrev pub invariant-loop-i : goal.invariant-loop-i
invariant-loop-i l = (l.counts ≡ eight (earlier l.t l.self)) × Filled 0 (place l.t l.self) l.places l.i
