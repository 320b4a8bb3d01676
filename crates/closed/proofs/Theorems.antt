-- What an accepted file means (document 02, §1): "Whoever made the file, an accepted one means no finite release list misses". Assumes
-- nothing.
use Prim.Native.Nat.{ℕ, ◌<◌}
use mathlib.Core.Path.{◌≡◌, refl, sym, ap, ◌∙◌}
use mathlib.Core.List.{List, [], ◌∷◌}
use native.Mathlib.Omega.{arith}
use native.Mathlib.Decide.{dec_lt}
use lib.ListN.{get_or}
use Rattle.tasks.specs.Sheet.{sheet_of, table_in}
use Rattle.tasks.specs.Tick.{ticked}
use Rattle.tasks.specs.declared.state.State.{State}
use Rattle.tasks.specs.declared.table.Table.{Table}
use Rattle.levels.specs.Verdict.{Tick, Misses}
use Rattle.levels.specs.Verdict.Tick.{Next, Missed, Refused}
use Rattle.levels.specs.Levels.{Calm}
use Rattle.levels.proofs.Verdicts.{closed_law}
use Rattle.states.specs.System.{step, system, tick_of}
use Rattle.states.proofs.SystemLaws.{step_tick_lem, step_legal}
use Rattle.closed.specs.Closed.{Contains, Leads, Closed, Judged, TableJudged, SheetJudged}

next_missed : {S : Type 0} {u v : S} → ◌≡◌ {A = Tick S} (Next u) (Missed v) → ⊥
next_missed e = let z : ◌≡◌ {A = ℕ} 0 1 = cc in omega arith

refused_next : {S : Type 0} {o : Tick S} {u : S} → o ≡ Next u → o ≡ Refused → ⊥
refused_next e r = let z : ◌≡◌ {A = ℕ} 0 1 = cc in omega arith

refused_missed : {S : Type 0} {o : Tick S} {u : S} → o ≡ Missed u → o ≡ Refused → ⊥
refused_missed e r = let z : ◌≡◌ {A = ℕ} 0 1 = cc in omega arith

module _ {t : Table} {file : List ℕ} (x : Closed t file) where
  -- a mask that leads goes on to its state
  led : (s : State) (m : ℕ) → m < 256 → Leads t file s m → step t s m ≡ Next (ticked t s m).state
  led s m b y = step_tick_lem t s m b ∙ ap (λ a. tick_of a (ticked t s m).state) y.next

  -- from a state of the file a tick that is not refused goes on, to a state of the file
  goes : (s : State) (m : ℕ) → Contains file s → (step t s m ≡ Refused → ⊥) → (step t s m ≡ Next (ticked t s m).state) × Contains file (ticked t s m).state
  goes s m h some =
      let legal = step_legal t s m some in
      let y : Leads t file s m = rw h.same at (x.leads h.place m h.below legal.0 (rw h.same legal.1)) in
      (led s m legal.0 y, y.contained)

  keeps : (s : State) (m : ℕ) (u : State) → Contains file s → step t s m ≡ Next u → Contains file u
  keeps s m u h e =
      let y = goes s m h (refused_next e) in
      let z = y.0 in
      let same : (ticked t s m).state ≡ u = cc in
      rw same at y.1

  -- no mask misses from a state of the file
  pub closed_calm : {s : State} → Contains file s → Calm (system t) s
  closed_calm {s} h m u e = next_missed (sym (goes s m h (refused_missed e)).0 ∙ e)

  -- LAW: no finite release list, legal or not, misses: the `Misses` of demand 3
  pub closed_safe : (l : List ℕ) → Misses (system t) l → ⊥
  closed_safe =
      closed_law (system t) (Contains file) x.begins keeps
      (λ s m u h e. closed_calm h m u e)

-- a file that is accepted is closed
accepted_closed : {q : ℕ} {t : Table} {file : List ℕ} → Judged q t file (1 ∷ []) → Closed t file
accepted_closed {q} x =
    elim (dec_lt 0 q) [
      | yes h ↦ absurd (let z = ap (λ l. get_or l 0 0) (x.refused h) in omega arith)
      | no h ↦ (x.accepted (omega arith)).0 refl
    ]

-- LAW: whoever made the file. Where the checker accepts it for a table, no finite release list misses
pub table_safe : (t : Table) (file : List ℕ) → TableJudged t file (1 ∷ []) → (l : List ℕ) → Misses (system t) l → ⊥
table_safe t file x = closed_safe (accepted_closed x)

-- LAW: .. and so for a sheet's table
pub sheet_safe : (sheet file : List ℕ) → SheetJudged sheet file (1 ∷ []) → (l : List ℕ) → Misses (system (table_in (sheet_of sheet))) l → ⊥
sheet_safe sheet file x = closed_safe (accepted_closed x)
