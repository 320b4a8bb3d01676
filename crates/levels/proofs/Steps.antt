-- The steps of the whole search, a law for each: it starts, finds a miss, opens a level, tries a mask, fills a slot, closes a row, goes
-- on, ends.
use mathlib.Core.Path.{◌≡◌}
use mathlib.Core.Logic.{◌⊎◌}
use mathlib.Core.List.{List, [], ◌∷◌, ◌++◌}
use Prim.Native.Nat.{ℕ, suc, ◌≤◌, ◌<◌}
use native.Mathlib.Omega.{arith}
use native.Mathlib.Decide.{dec_lt}
use Rattle.levels.specs.Verdict.{System, Holds, Verdict}
use Rattle.levels.specs.Verdict.Tick.{Next, Missed, Refused}
use Rattle.levels.specs.Verdict.Answer.{Unsafe, Safe, NoRoom}
use Rattle.levels.specs.Slots.{SlotRule}
use Rattle.levels.specs.Levels.{trail, Before, Hunting, Covered, Trailed, Filling}
use Rattle.levels.proofs.Explore.{Explored, start_law, hunt_law, open_law, level_law}
use Rattle.levels.proofs.Legal.{Row, row_open, row_next, row_push, row_close}
use Rattle.levels.proofs.Trails.{trail_length, trailed_start, trailed_next, grown_open, grown_push}
use Rattle.levels.proofs.Slots.{rule_start, rule_push}
use Rattle.levels.proofs.Verdicts.{miss_law, safe_law, room_law}

module _ (sys : System) where
  open sys use {State, Mask, start, step}

  -- the search stands at level d: the slots before hi are all of it, with their trails and by the slot rule
  pub record Standing (at : ℕ → State) (parent : ℕ → ℕ) (mask : ℕ → Mask) (zeroth : Mask) (lo hi d : ℕ) : Type 0 where
    pub deep : d < hi
    pub explored : Explored sys at lo hi d
    pub low : (i : ℕ) → i < hi → parent i < hi
    pub trailed : Trailed sys at parent mask lo hi d
    pub rule : SlotRule sys at parent mask zeroth hi

  -- slot 0 is written
  pub search_start : (at : ℕ → State) (parent : ℕ → ℕ) (mask : ℕ → Mask) {zeroth : Mask} → at 0 ≡ start → parent 0 ≡ 0 → mask 0 ≡ zeroth → Standing at parent mask zeroth 0 1 0
  search_start at parent mask e p m = record {
    deep = omega arith;
    explored = start_law sys at e;
    low = λ i h. (let z : i ≡ 0 = omega arith in rw (z, p) (omega arith));
    trailed = trailed_start sys at parent mask e;
    rule = rule_start sys e p m;
  }

  module _ {at : ℕ → State} {parent : ℕ → ℕ} {mask : ℕ → Mask} {zeroth : Mask} {lo hi d : ℕ} where
    -- a mask misses from a slot of the level
    pub search_miss : Standing at parent mask zeroth lo hi d → {K : ℕ} → hi ≤ K → (i : ℕ) → lo ≤ i → i < hi → (m : Mask) {t : State} → step (at i) m ≡ Missed t
        → Verdict sys K (Unsafe (suc d) hi) (trail parent mask d i ++ m ∷ [])
    search_miss x room i l h m e = miss_law sys x.explored room (trail parent mask d i) m (trail_length parent mask d i) (x.trailed i l h) e

    -- no mask misses from a slot of the level: its successors are stored
    pub search_open : Standing at parent mask zeroth lo hi d → Hunting sys at lo hi → Filling sys at parent mask zeroth lo hi hi d (Before lo)
    search_open x hunt = record {
      deep = x.deep;
      storing = open_law sys x.explored (hunt_law sys x.explored hunt);
      grown = grown_open sys x.low x.trailed;
      rule = x.rule;
    }

    module _ {n : ℕ} where
      -- slot i is taken up, and none of its masks is done
      pub search_row : {i : ℕ} {Done : Mask → Type 0} → Filling sys at parent mask zeroth lo hi n d (Before i) → ((q : Mask) → Done q → ⊥)
          → Filling sys at parent mask zeroth lo hi n d (Row i Done)
      search_row x none = record { deep = x.deep; storing = row_open sys x.storing none; grown = x.grown; rule = x.rule }

      -- mask m of slot i is tried, and nothing is new
      pub search_known : {i : ℕ} {Done Done' : Mask → Type 0} → Filling sys at parent mask zeroth lo hi n d (Row i Done)
          → (m : Mask) → ((q : Mask) → Done' q → Done q ⊎ (q ≡ m)) → Covered sys at n (at i) m
          → Filling sys at parent mask zeroth lo hi n d (Row i Done')
      search_known x m grow covered = record { deep = x.deep; storing = row_next sys x.storing m grow covered; grown = x.grown; rule = x.rule }

      -- mask m of slot i is tried, and its new state goes into slot n
      pub search_push : {at' : ℕ → State} {parent' : ℕ → ℕ} {mask' : ℕ → Mask} {i : ℕ} {Done Done' : Mask → Type 0} → Filling sys at parent mask zeroth lo hi n d (Row i Done)
          → ((j : ℕ) → j < n → at' j ≡ at j) → ((j : ℕ) → j < n → parent' j ≡ parent j) → ((j : ℕ) → j < n → mask' j ≡ mask j)
          → lo ≤ i → i < hi → (m : Mask) → ((q : Mask) → Done' q → Done q ⊎ (q ≡ m))
          → parent' n ≡ i → mask' n ≡ m → step (at i) m ≡ Next (at' n) → (Holds at n (at' n) → ⊥)
          → Filling sys at' parent' mask' zeroth lo hi (suc n) d (Row i Done')
      search_push {at'} {parent'} {mask'} {i} x ss ps ms l h m grow p q e absent = record {
        deep = x.deep;
        storing = row_push sys x.storing ss h m grow e absent;
        grown = grown_push sys x.grown ss ps ms (rw p l) (rw p h) (rw (p, q) e);
        rule = rule_push sys x.rule (let o = x.storing.order in omega arith) ss ps ms (rw p (let o = x.storing.order in omega arith)) (rw (p, q) e);
      }

      -- every mask of slot i is tried or refused
      pub search_close : {i : ℕ} {Done : Mask → Type 0} → Filling sys at parent mask zeroth lo hi n d (Row i Done)
          → ((m : Mask) → Done m ⊎ (step (at i) m ≡ Refused)) → Filling sys at parent mask zeroth lo hi n d (Before (suc i))
      search_close x others = record { deep = x.deep; storing = row_close sys x.storing others; grown = x.grown; rule = x.rule }

      -- every slot of the level is tried, and slots were filled: the next level
      pub search_next : Filling sys at parent mask zeroth lo hi n d (Before hi) → hi < n → Standing at parent mask zeroth hi n (suc d)
      search_next x more = record {
        deep = (let a = x.deep in omega arith);
        explored = level_law sys x.storing (λ i m h. h);
        low = λ i h. low i h (dec_lt i hi);
        trailed = trailed_next sys x.grown;
        rule = x.rule;
      }
        where
          low : (i : ℕ) → i < n → Dec (i < hi) → parent i < n
          low i h (yes b) = let a = x.grown.low i b in omega arith
          low i h (no nb) = let a = x.grown.below i (omega arith) h in omega arith

    -- every slot of the level is tried, and none was filled
    pub search_safe : Filling sys at parent mask zeroth lo hi hi d (Before hi) → (K : ℕ) → hi ≤ K → (trace : List Mask) → Verdict sys K (Safe hi) trace
    search_safe x K room trace = safe_law sys x.storing (λ i m h. h) K room trace

    -- K slots are filled, and a state more is found
    pub search_room : {K : ℕ} {T : ℕ → Mask → Type 0} → Filling sys at parent mask zeroth lo hi K d T
        → (i : ℕ) → i < hi → (m : Mask) (t : State) → step (at i) m ≡ Next t → (Holds at K t → ⊥) → (trace : List Mask) → Verdict sys K (NoRoom K) trace
    search_room x i h m t e absent trace = room_law sys x.storing i m h t e absent trace
