-- The numbers of a task after the release and after the run. Assumes nothing.
use Prim.Native.Nat.{ℕ, ◌-◌, ◌≤◌, ◌<◌}
use mathlib.Core.Path.{◌≡◌, ap, ◌∙◌}
use mathlib.Core.Bool.{true, false}
use native.Mathlib.Omega.{arith}
use lib.ListN.{get_or}
use Rattle.lists.specs.Lists.{pick}
use Rattle.tasks.specs.Tick.{bit, released_at, released, runs, chosen, ran_at, fallen, ran, after}
use Rattle.tasks.specs.declared.state.State.{State}
use Rattle.tasks.specs.declared.table.Table.{Table}
use Rattle.lists.proofs.Bools.{by_bool}
use Rattle.lists.proofs.Fill.{eight_at}

module _ (t : Table) (s : State) (mask i : ℕ) (h : i < 8) where
  -- ---- after the release

  work_released : get_or (released t s mask).c i 0 ≡ released_at t.work s.c mask i
  unfolding released
  work_released = eight_at 0 (released_at t.work s.c mask) i h

  gap_released : get_or (released t s mask).p i 0 ≡ released_at t.gap s.p mask i
  unfolding released
  gap_released = eight_at 0 (released_at t.gap s.p mask) i h

  pub work_on : bit mask i ≡ true → get_or (released t s mask).c i 0 ≡ get_or t.work i 0
  unfolding released_at
  work_on e = work_released ∙ rw e

  pub work_off : bit mask i ≡ false → get_or (released t s mask).c i 0 ≡ get_or s.c i 0
  unfolding released_at
  work_off e = work_released ∙ rw e

  pub gap_on : bit mask i ≡ true → get_or (released t s mask).p i 0 ≡ get_or t.gap i 0
  unfolding released_at
  gap_on e = gap_released ∙ rw e

  pub gap_off : bit mask i ≡ false → get_or (released t s mask).p i 0 ≡ get_or s.p i 0
  unfolding released_at
  gap_off e = gap_released ∙ rw e

  -- ---- after the run

  work_after :
      get_or (after t s mask).c i 0
      ≡ pick (runs t (released t s mask) i) (get_or (released t s mask).c i 0 - 1) (get_or (released t s mask).c i 0)
  unfolding after ran ran_at chosen
  work_after =
      eight_at 0 (ran_at (released t s mask).c (chosen t (released t s mask))) i h
      ∙ ap (λ b. pick b (get_or (released t s mask).c i 0 - 1) (get_or (released t s mask).c i 0)) (eight_at false (runs t (released t s mask)) i h)

  pub work_ran : runs t (released t s mask) i ≡ true → get_or (after t s mask).c i 0 ≡ get_or (released t s mask).c i 0 - 1
  work_ran e = work_after ∙ rw e

  pub work_waited : runs t (released t s mask) i ≡ false → get_or (after t s mask).c i 0 ≡ get_or (released t s mask).c i 0
  work_waited e = work_after ∙ rw e

  pub work_falls : get_or (after t s mask).c i 0 ≤ get_or (released t s mask).c i 0
  work_falls =
      by_bool (runs t (released t s mask) i) (λ e. omega (arith, work_ran e)) (λ e. omega (arith, work_waited e))

  pub gap_after : get_or (after t s mask).p i 0 ≡ get_or (released t s mask).p i 0 - 1
  unfolding after ran fallen
  gap_after = eight_at 0 (fallen (released t s mask).p) i h
