-- The number of processors that a tick's walk has given out, at every step (document 02, §2). Assumes nothing.
use Prim.Native.Nat.{ℕ, ◌≤◌}
use mathlib.Core.Path.{◌≡◌}
use mathlib.Core.List.{List}
use mathlib.Core.Bool.{false}
use native.Mathlib.Omega.{arith}
use Rattle.cores.specs.Walk.{tasks_in, Walked}
use Rattle.cores.proofs.WalkLaws.{most_few}
use Rattle.tasks.specs.State.{improper}
use Rattle.tasks.specs.Tick.{released}
use Rattle.tasks.specs.declared.state.State.{State}
use Rattle.tasks.specs.declared.table.Table.{Table}
use Rattle.tasks.proofs.Place.{Placed, places_kept}
use Rattle.tasks.proofs.Proper.{few_keep}

module _
    (t : Table) (s : State) (mask : ℕ) {places : List ℕ} (placed : Placed t (released t s mask) places)
    {run : List ℕ} {given : ℕ} (walk : Walked places t.m run given) where
  -- LAW: it is that of the tasks chosen so far
  pub given_number : given ≡ tasks_in run
  given_number = walk.number

  -- LAW: and from a proper state it never exceeds m
  pub given_most : improper t s ≡ false → given ≤ t.m
  given_most proper =
      let kept = places_kept t (released t s mask) places placed in
      let few = few_keep t s mask proper in
      omega (arith, walk.most, most_few places t.m (omega arith))
