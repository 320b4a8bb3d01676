-- The laws of the hunt through the slots of a level. Assumes nothing.
use Prim.Native.Nat.{ℕ, ◌+◌, ◌≤◌, ◌<◌}
use mathlib.Core.Path.{◌≡◌}
use mathlib.Core.Bool.{true, false}
use mathlib.Core.List.{List}
use native.Mathlib.Omega.{arith}
use native.Mathlib.Numerals.{add-one}
use Rattle.tasks.specs.Table.{table_fault}
use Rattle.tasks.specs.State.{improper}
use Rattle.tasks.specs.Tick.{after, missed}
use Rattle.tasks.specs.Masks.{free_mask}
use Rattle.tasks.specs.declared.state.State.{State}
use Rattle.tasks.specs.declared.table.Table.{Table}
use Rattle.levels.specs.Levels.{Calm, Hunting}
use Rattle.levels.proofs.Explore.{hunt_next}
use Rattle.levels.proofs.Legal.{calm_legal}
use Rattle.states.specs.Bytes.{state_in}
use Rattle.states.specs.System.{system}
use Rattle.search.specs.Keeping.{Level, MissFrom}
use Rattle.states.proofs.MaskTest.{submask}
use Rattle.states.proofs.MaskLaws.{Walked}
use Rattle.states.proofs.SystemLaws.{step_missed, step_next, legal_or_refused}

-- the submasks of free before m do not miss from s
abbrev pub CalmTo : Table → State → ℕ → ℕ → Type 0
CalmTo t s free m = Walked (λ q. missed t (after t s q) ≡ false) free m

module _ (t : Table) (valid : table_fault t ≡ 0) (s : State) (proper : improper t s ≡ false) where
  -- no legal mask misses, so no mask does
  pub calm_end : {m : ℕ} → CalmTo t s (free_mask t s) m → 256 ≤ m → Calm (system t) s
  calm_end {m} x h =
      calm_legal (system t) s {Legal = λ q. (q < 256) × (submask (free_mask t s) q ≡ true)} (legal_or_refused t valid s proper)
      (λ q l u e.
      let n = step_next t valid s proper q l.0 l.1 (x.each q (omega (arith, l.0)) l.1) in
      let z : ◌≡◌ {A = ℕ} 0 1 = cc in
      omega arith)

-- the slots before i + 1 are calm
pub hunt_turn : (t : Table) (w : List ℕ) {lo i : ℕ} → Hunting (system t) (state_in w) lo i → Calm (system t) (state_in w i) → Hunting (system t) (state_in w) lo (i + 1)
hunt_turn t w x calm = rw add-one (hunt_next (system t) x calm)

-- a legal mask that misses
pub miss_from :
    {t : Table} {w : List ℕ} {lo hi i m : ℕ} → Level t w hi → lo ≤ i → i < hi → m < 256 → submask (free_mask t (state_in w i)) m ≡ true
    → missed t (after t (state_in w i) m) ≡ true → MissFrom t w lo hi i m
miss_from {t} {w} {lo} {hi} {i} {m} x l h b legal e =
    record { from = l; below = h; missed = step_missed t x.valid (state_in w i) (x.proper i h) m b legal e }
