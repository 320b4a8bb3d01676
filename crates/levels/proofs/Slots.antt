-- The laws of the written slots: the slot rule is kept by a push, and what a search has stored is what its answer promises.
use mathlib.Core.Path.{◌≡◌, sym, ◌∙◌}
use mathlib.Core.Logic.{◌⊎◌}
use mathlib.Core.Logic.◌⊎◌.{inl, inr}
use Prim.Native.Nat.{ℕ, suc, ◌-◌, ◌<◌}
use native.Mathlib.Omega.{arith}
use Rattle.levels.specs.Verdict.{System, Answer}
use Rattle.levels.specs.Verdict.Tick.{Next}
use Rattle.levels.specs.Verdict.Answer.{Unsafe, Safe, NoRoom}
use Rattle.levels.specs.Slots.{SlotRule, Stored, Complete, count_of}
use Rattle.levels.specs.Levels.{Storing}
use Rattle.levels.proofs.Numbered.{split_last, holds_more}
use Rattle.levels.proofs.Explore.{Explored}
use Rattle.levels.proofs.Replay.{reached}
use Rattle.levels.proofs.Verdicts.{reached_within}

module _ (sys : System) where
  open sys use {State, Mask, start, step}

  -- slot 0 is written
  pub rule_start : {at : ℕ → State} {parent : ℕ → ℕ} {mask : ℕ → Mask} {zeroth : Mask} → at 0 ≡ start → parent 0 ≡ 0 → mask 0 ≡ zeroth → SlotRule sys at parent mask zeroth 1
  rule_start e p m = record {
    root = e;
    root_parent = p;
    root_mask = m;
    earlier = λ i l h. absurd (omega arith);
    gives = λ i l h. absurd (omega arith);
  }

  -- slot n is written, and those before it stay
  pub rule_push : {at at' : ℕ → State} {parent parent' : ℕ → ℕ} {mask mask' : ℕ → Mask} {zeroth : Mask} {n : ℕ} → SlotRule sys at parent mask zeroth n → 0 < n
      → ((i : ℕ) → i < n → at' i ≡ at i) → ((i : ℕ) → i < n → parent' i ≡ parent i) → ((i : ℕ) → i < n → mask' i ≡ mask i)
      → parent' n < n → step (at (parent' n)) (mask' n) ≡ Next (at' n) → SlotRule sys at' parent' mask' zeroth (suc n)
  rule_push {at} {at'} {parent} {parent'} {mask} {mask'} {zeroth} {n} x pos ss ps ms low e = record {
    root = ss 0 pos ∙ x.root;
    root_parent = ps 0 pos ∙ x.root_parent;
    root_mask = ms 0 pos ∙ x.root_mask;
    earlier = λ i l h. earlier i l (split_last h);
    gives = λ i l h. gives i l (split_last h);
  }
    where
      earlier : (i : ℕ) → 0 < i → (i < n) ⊎ (i ≡ n) → parent' i < i
      earlier i l (inl b) = rw (ps i b) (x.earlier i l b)
      earlier i l (inr z) = rw z low

      gives : (i : ℕ) → 0 < i → (i < n) ⊎ (i ≡ n) → step (at' (parent' i)) (mask' i) ≡ Next (at' i)
      gives i l (inl b) =
          let q : parent i < n = (let r = x.earlier i l b in omega arith) in
          rw (ps i b, ms i b, ss i b, ss (parent i) q) (x.gives i l b)
      gives i l (inr z) = rw (z, ss (parent' n) low) e

  -- other bytes of the slots do not matter
  pub rule_same : {at at' : ℕ → State} {parent parent' : ℕ → ℕ} {mask mask' : ℕ → Mask} {zeroth : Mask} {n : ℕ} → SlotRule sys at parent mask zeroth n → 0 < n
      → ((i : ℕ) → i < n → at' i ≡ at i) → ((i : ℕ) → i < n → parent' i ≡ parent i) → ((i : ℕ) → i < n → mask' i ≡ mask i)
      → SlotRule sys at' parent' mask' zeroth n
  rule_same {at} {at'} {parent} {parent'} {mask} {mask'} {zeroth} {n} x pos ss ps ms = record {
    root = ss 0 pos ∙ x.root;
    root_parent = ps 0 pos ∙ x.root_parent;
    root_mask = ms 0 pos ∙ x.root_mask;
    earlier = λ i l h. rw (ps i h) (x.earlier i l h);
    gives = λ i l h. (let q : parent i < n = (let r = x.earlier i l h in omega arith) in rw (ps i h, ms i h, ss i h, ss (parent i) q) (x.gives i l h));
  }

  pub stored_same : {at at' : ℕ → State} {n : ℕ} → Stored sys at n → ((i : ℕ) → i < n → at' i ≡ at i) → Stored sys at' n
  stored_same x ss = record {
    distinct = λ i j hi hj q. x.distinct i j hi hj (sym (ss i hi) ∙ q ∙ ss j hj);
    reached = λ i h. rw (ss i h) (x.reached i h);
  }

  pub complete_same : {at at' : ℕ → State} (a : Answer) → Complete sys at a → ((i : ℕ) → i < count_of a → at' i ≡ at i) → Complete sys at' a
  complete_same (Unsafe L n) x ss = λ s w. holds_more (omega arith) ss (x s w)
  complete_same (Safe n) x ss = λ s r. holds_more (omega arith) ss (x s r)
  complete_same (NoRoom n) x ss = tt

  -- the slots of a complete level, and under Unsafe they are all
  pub level_stored : {at : ℕ → State} {lo hi d : ℕ} → Explored sys at lo hi d → Stored sys at hi
  level_stored x = record { distinct = x.distinct; reached = λ i h. reached sys (x.sound i h) }

  pub miss_complete : {at : ℕ → State} {lo hi d : ℕ} → Explored sys at lo hi d → Complete sys at (Unsafe (suc d) hi)
  miss_complete {at} {lo} {hi} {d} x s w = let z : suc d - 1 ≡ d = omega arith in x.full s (rw z at w)

  -- the slots on the way to the next level, and under Safe they are all
  pub filled_stored : {at : ℕ → State} {hi n d : ℕ} {T : ℕ → Mask → Type 0} → Storing sys at hi n d T → Stored sys at n
  filled_stored x = record { distinct = x.distinct; reached = λ i h. reached sys (x.new i h) }

  pub safe_complete : {at : ℕ → State} {hi d : ℕ} {T : ℕ → Mask → Type 0} → Storing sys at hi hi d T → ((i : ℕ) (m : Mask) → i < hi → T i m) → Complete sys at (Safe hi)
  safe_complete x all s r = x.full s (reached_within sys x all s r)
