-- A search that ticks only legal masks: what it tried over them holds of every mask, since any other mask is refused.
use mathlib.Core.Path.{◌≡◌}
use mathlib.Core.Logic.{◌⊎◌, ⊎_elim}
use mathlib.Core.Logic.◌⊎◌.{inl, inr}
use mathlib.Core.Bool.{Bool, true, false}
use mathlib.Core.List.{List, Memᴰ}
use Prim.Native.Nat.{ℕ, suc, ◌<◌}
use native.Mathlib.Omega.{arith}
use Rattle.levels.specs.Verdict.{System, Tick, Holds}
use Rattle.levels.specs.Verdict.Tick.{Next, Missed, Refused}
use Rattle.levels.specs.Levels.{Before, Calm, Covered, Storing}
use Rattle.levels.proofs.Numbered.{split_last}
use Rattle.levels.proofs.Explore.{tried_law, push_law}

-- a refusal is neither a miss nor a state
refused_not_missed : {S : Type 0} {o : Tick S} {t : S} → o ≡ Refused → o ≡ Missed t → ⊥
refused_not_missed r e = let z : ◌≡◌ {A = ℕ} 0 1 = cc in omega arith

refused_not_next : {S : Type 0} {o : Tick S} {t : S} → o ≡ Refused → o ≡ Next t → ⊥
refused_not_next r e = let z : ◌≡◌ {A = ℕ} 0 1 = cc in omega arith

-- the pairs tried: every mask of the slots before slot i, and of slot i those that are done
abbrev pub Row : {M : Type 0} → ℕ → (M → Type 0) → ℕ → M → Type 0
Row i Done = λ j m. (j < i) ⊎ ((j ≡ i) × Done m)

-- a finitely branching system: a test tells its states apart, and every mask that is not on the list is refused
pub record FinitelyBranching (sys : System) (same : sys.State → sys.State → Bool) (masks : List sys.Mask) : Type 0 where
  pub equal : (s t : sys.State) → same s t ≡ true → s ≡ t
  pub different : (s t : sys.State) → same s t ≡ false → s ≡ t → ⊥
  pub others : (s : sys.State) (m : sys.Mask) → Memᴰ m masks ⊎ (sys.step s m ≡ Refused)

module _ (sys : System) where
  open sys use {State, Mask, step}

  -- no legal mask misses from s, and any other is refused
  pub calm_legal : (s : State) {Legal : Mask → Type 0} → ((m : Mask) → Legal m ⊎ (step s m ≡ Refused))
      → ((m : Mask) → Legal m → (t : State) → step s m ≡ Missed t → ⊥) → Calm sys s
  calm_legal s others none m t e = ⊎_elim (λ l. none m l t e) (λ r. refused_not_missed r e) (others m)

  -- the successors of s under the legal masks are among the first n slots, and any other mask is refused
  pub covered_legal : {at : ℕ → State} {n : ℕ} (s : State) {Legal : Mask → Type 0} → ((m : Mask) → Legal m ⊎ (step s m ≡ Refused))
      → ((m : Mask) → Legal m → Covered sys at n s m) → (m : Mask) → Covered sys at n s m
  covered_legal s others covered m t e = ⊎_elim (λ l. covered m l t e) (λ r. absurd (refused_not_next r e)) (others m)

  -- one mask tried for all: full does not miss from s, and it would where any legal mask does
  pub calm_full : (s : State) {Legal : Mask → Type 0} → ((m : Mask) → Legal m ⊎ (step s m ≡ Refused))
      → (full : Mask) → ((m : Mask) → Legal m → (t : State) → step s m ≡ Missed t → (u : State) × (step s full ≡ Missed u))
      → ((u : State) → step s full ≡ Missed u → ⊥) → Calm sys s
  calm_full s others full grows none = calm_legal s others (λ m l t e. let (u, q) = grows m l t e in none u q)

  -- a row: the masks of slot i, of which none is done at first
  pub row_open : {at : ℕ → State} {hi n d i : ℕ} {Done : Mask → Type 0} → Storing sys at hi n d (Before i) → ((q : Mask) → Done q → ⊥) → Storing sys at hi n d (Row i Done)
  row_open x none = tried_law sys x (λ j m h u. ⊎_elim (λ l. inl l) (λ q. absurd (none m q.1)) u)

  -- mask m is done: its successor is among the slots, or it has none
  pub row_next : {at : ℕ → State} {hi n d i : ℕ} {Done Done' : Mask → Type 0} → Storing sys at hi n d (Row i Done)
      → (m : Mask) → ((q : Mask) → Done' q → Done q ⊎ (q ≡ m)) → Covered sys at n (at i) m
      → Storing sys at hi n d (Row i Done')
  row_next {at} {hi} {n} {d} {i} {Done} {Done'} x m grow covered = tried_law sys x more
    where
      more : (j : ℕ) (q : Mask) → j < hi → Row i Done' j q → Row i Done j q ⊎ Covered sys at n (at j) q
      more j q h (inl l) = inl (inl l)
      more j q h (inr u) = go (grow q u.1)
        where
          go : Done q ⊎ (q ≡ m) → Row i Done j q ⊎ Covered sys at n (at j) q
          go (inl y) = inl (inr (u.0, y))
          go (inr z) = inr (rw (u.0, z) covered)

  -- mask m is done: its successor was not among the slots and goes into slot n
  pub row_push : {at at' : ℕ → State} {hi n d i : ℕ} {Done Done' : Mask → Type 0} → Storing sys at hi n d (Row i Done)
      → ((j : ℕ) → j < n → at' j ≡ at j) → i < hi
      → (m : Mask) → ((q : Mask) → Done' q → Done q ⊎ (q ≡ m)) → step (at i) m ≡ Next (at' n) → (Holds at n (at' n) → ⊥)
      → Storing sys at' hi (suc n) d (Row i Done')
  row_push {at} {at'} {hi} {n} {d} {i} x same h m grow e absent = row_next (push_law sys x same i m h e absent) m grow covered
    where
      covered : Covered sys at' (suc n) (at' i) m
      covered t q =
          let o = x.order in
          let q' : step (at i) m ≡ Next t = (rw (same i (omega arith)) at q) in
          record { place = n; below = omega arith; same = cc }

  -- every mask of slot i is done or refused
  pub row_close : {at : ℕ → State} {hi n d i : ℕ} {Done : Mask → Type 0} → Storing sys at hi n d (Row i Done)
      → ((m : Mask) → Done m ⊎ (step (at i) m ≡ Refused)) → Storing sys at hi n d (Before (suc i))
  row_close {at} {hi} {n} {d} {i} {Done} x others = tried_law sys x (λ j m h u. go j m (split_last u))
    where
      go : (j : ℕ) (m : Mask) → (j < i) ⊎ (j ≡ i) → Row i Done j m ⊎ Covered sys at n (at j) m
      go j m (inl l) = inl (inl l)
      go j m (inr z) = ⊎_elim (λ y. inl (inr (z, y))) (λ r. inr (λ t e. absurd (refused_not_next r (rw z at e)))) (others m)
