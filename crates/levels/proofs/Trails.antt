-- The trails through the parents: one to each slot of a level, kept by a push, and longer by one mask at the next level.
use mathlib.Core.Path.{◌≡◌, refl}
use mathlib.Core.Logic.{◌⊎◌}
use mathlib.Core.Logic.◌⊎◌.{inl, inr}
use Prim.Native.Nat.{ℕ, zero, suc, ◌≤◌, ◌<◌}
use native.Mathlib.Omega.{arith}
use lib.ListN.{length, length-append}
use Rattle.levels.specs.Verdict.{System}
use Rattle.levels.specs.Verdict.Tick.{Next}
use Rattle.levels.specs.Levels.{trail, Trailed, Grown}
use Rattle.levels.proofs.Replay.{reach_snoc}
use Rattle.levels.proofs.Numbered.{split_last}

pub trail_length : {M : Type 0} (parent : ℕ → ℕ) (mask : ℕ → M) (k i : ℕ) → length (trail parent mask k i) ≡ k
trail_length parent mask zero i = refl
trail_length parent mask (suc k) i = simp length-append (let h = trail_length parent mask k (parent i) in omega arith)

-- a trail from below n depends on the slots below n alone
pub trail_same : {M : Type 0} {parent parent' : ℕ → ℕ} {mask mask' : ℕ → M} {n : ℕ}
    → ((i : ℕ) → i < n → parent' i ≡ parent i) → ((i : ℕ) → i < n → mask' i ≡ mask i) → ((i : ℕ) → i < n → parent i < n)
    → (k i : ℕ) → i < n → trail parent' mask' k i ≡ trail parent mask k i
trail_same ps ms low zero i h = refl
trail_same {parent} {parent'} {mask} {mask'} ps ms low (suc k) i h = rw (ps i h, ms i h, trail_same ps ms low k (parent i) (low i h))

module _ (sys : System) where
  open sys use {State, Mask, start, step}

  -- the start has its trail, of no masks
  pub trailed_start : (at : ℕ → State) (parent : ℕ → ℕ) (mask : ℕ → Mask) → at 0 ≡ start → Trailed sys at parent mask 0 1 0
  trailed_start at parent mask e i l h = let z : i ≡ 0 = omega arith in rw (z, e)

  -- a level that is stored has its trails
  pub trailed_next : {at : ℕ → State} {parent : ℕ → ℕ} {mask : ℕ → Mask} {lo hi n d : ℕ} → Grown sys at parent mask lo hi n d → Trailed sys at parent mask hi n (suc d)
  trailed_next {at} {parent} {mask} {lo} {hi} {n} {d} g i l h =
      reach_snoc sys (trail parent mask d (parent i)) (mask i)
      (g.level (parent i) (g.from i l h) (g.below i l h)) (g.gives i l h)

  -- nothing is stored yet
  pub grown_open : {at : ℕ → State} {parent : ℕ → ℕ} {mask : ℕ → Mask} {lo hi d : ℕ} → ((i : ℕ) → i < hi → parent i < hi) → Trailed sys at parent mask lo hi d → Grown sys at parent mask lo hi hi d
  grown_open low t = record {
    order = omega arith;
    low = low;
    level = t;
    from = λ i l h. omega arith;
    below = λ i l h. omega arith;
    gives = λ i l h. absurd (omega arith);
  }

  -- a push keeps the trails, and the new slot's parent is of the level
  pub grown_push : {at at' : ℕ → State} {parent parent' : ℕ → ℕ} {mask mask' : ℕ → Mask} {lo hi n d : ℕ} → Grown sys at parent mask lo hi n d
      → ((i : ℕ) → i < n → at' i ≡ at i) → ((i : ℕ) → i < n → parent' i ≡ parent i) → ((i : ℕ) → i < n → mask' i ≡ mask i)
      → lo ≤ parent' n → parent' n < hi → step (at (parent' n)) (mask' n) ≡ Next (at' n)
      → Grown sys at' parent' mask' lo hi (suc n) d
  grown_push {at} {at'} {parent} {parent'} {mask} {mask'} {lo} {hi} {n} {d} g ss ps ms l h e = record {
    order = (let o = g.order in omega arith);
    low = λ i b. rw (ps i (up i b)) (g.low i b);
    level = λ i a b. rw (ss i (up i b), trail_same (λ j q. ps j (up j q)) (λ j q. ms j (up j q)) g.low d i b) (g.level i a b);
    from = λ i a b. from' i a (split_last b);
    below = λ i a b. below' i a (split_last b);
    gives = λ i a b. gives' i a (split_last b);
  }
    where
      up : (i : ℕ) → i < hi → i < n
      up i b = let o = g.order in omega arith

      from' : (i : ℕ) → hi ≤ i → (i < n) ⊎ (i ≡ n) → lo ≤ parent' i
      from' i a (inl b) = rw (ps i b) (g.from i a b)
      from' i a (inr z) = rw z l

      below' : (i : ℕ) → hi ≤ i → (i < n) ⊎ (i ≡ n) → parent' i < hi
      below' i a (inl b) = rw (ps i b) (g.below i a b)
      below' i a (inr z) = rw z h

      gives' : (i : ℕ) → hi ≤ i → (i < n) ⊎ (i ≡ n) → step (at' (parent' i)) (mask' i) ≡ Next (at' i)
      gives' i a (inl b) = rw (ps i b, ms i b, ss i b, ss (parent i) (up (parent i) (g.below i a b))) (g.gives i a b)
      gives' i a (inr z) = rw (z, ss (parent' n) (up (parent' n) h)) e
