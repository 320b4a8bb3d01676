-- The laws of storing: a mask of a slot, a row of masks, a level of rows. Assumes nothing.
use Prim.Native.Nat.{ℕ, ◌+◌, ◌-◌, ◌*◌, ◌/◌, ◌≤◌, ◌<◌}
use mathlib.Core.Path.{◌≡◌, refl, sym, ◌∙◌}
use mathlib.Core.Bool.{true, false}
use mathlib.Core.Logic.{◌⊎◌, ⊎_elim}
use mathlib.Core.Logic.◌⊎◌.{inl, inr}
use mathlib.Core.List.{List}
use native.Mathlib.Omega.{arith}
use native.Mathlib.Numerals.{add-one}
use Rattle.tasks.specs.State.{improper}
use Rattle.tasks.specs.Tick.{after, missed}
use Rattle.tasks.specs.Masks.{free_mask}
use Rattle.tasks.specs.Words.{state_of}
use Rattle.tasks.specs.Ticker.{ticked_by}
use Rattle.tasks.specs.declared.state.State.{State}
use Rattle.tasks.specs.declared.table.Table.{Table}
use Rattle.tasks.specs.declared.ticker.Prepared.{Prepared}
use Rattle.tasks.specs.declared.ticker.Ticker.{Ticker}
use Rattle.lists.proofs.Bools.{by_bool}
use Rattle.tasks.proofs.Free.{free_small}
use Rattle.levels.specs.Verdict.Tick.{Next, Missed, Refused}
use Rattle.levels.specs.Verdict.{System}
use Rattle.levels.specs.Levels.{Before, Filling}
use Rattle.levels.proofs.Legal.{Row}
use Rattle.levels.proofs.Slots.{rule_same, filled_stored}
use Rattle.levels.proofs.Trails.{trail_same}
use Rattle.levels.proofs.Steps.{search_row, search_known, search_push, search_close, search_room}
use Rattle.states.specs.Bytes.{state_in}
use Rattle.states.specs.System.{step, system}
use Rattle.states.specs.Masks.{follows}
use Rattle.slots.specs.Running.{ends_after, Marked}
use Rattle.slots.proofs.LayoutLaws.{stays_none, stays_join}
use Rattle.slots.proofs.RunningLaws.{marked_more, marked_same, marked_after, marked_last, parent_now, parent_same, parents_after}
use Rattle.search.specs.Indexed.{Indexed}
use Rattle.search.specs.Keeping.{FillingIn, Level, Known, Added, Crowded, Kept, Carries, RowReady, RowDone, RowFull, BlockReady, Advances, BlockDone, BlockFull, LevelDone, LevelFull}
use Rattle.states.proofs.MaskTest.{submask}
use Rattle.states.proofs.MaskLaws.{next_submask, no_bits, passed}
use Rattle.states.proofs.SystemLaws.{step_missed, step_next, legal_or_refused}

-- ---- what stays

pub kept_none : {K : ℕ} {w : List ℕ} {n : ℕ} → Kept K w w n n
kept_none = record { order = omega arith; len = refl; states = λ j h. refl; rest = stays_none }

pub kept_join : {K : ℕ} {w w₁ w₂ : List ℕ} {n n₁ n₂ : ℕ} → Kept K w w₁ n n₁ → Kept K w₁ w₂ n₁ n₂ → Kept K w w₂ n n₂
kept_join x y =
    record {
      order = (let a = x.order in let b = y.order in omega arith);
      len = y.len ∙ x.len;
      states = λ j h. y.states j (let a = x.order in omega arith) ∙ x.states j h;
      rest = stays_join y.order x.rest y.rest;
    }

-- other parents that are the same for the slots filled
filling_parents :
    (sys : System) {at : ℕ → sys.State} {parent parent' : ℕ → ℕ} {mask : ℕ → sys.Mask} {zeroth : sys.Mask} {lo hi n d : ℕ} {T : ℕ → sys.Mask → Type 0}
    → Filling sys at parent mask zeroth lo hi n d T → ((j : ℕ) → j < n → parent' j ≡ parent j) → Filling sys at parent' mask zeroth lo hi n d T
filling_parents sys {at} {parent} {parent'} {mask} {zeroth} {lo} {hi} {n} {d} x ps =
    let g = x.grown in
    let o = g.order in
    record {
      deep = x.deep;
      storing = x.storing;
      grown = record {
        order = g.order;
        low = λ i b. rw (ps i (omega arith)) (g.low i b);
        level = λ i a b. rw (trail_same {mask = mask} (λ j q. ps j (omega arith)) (λ j q. refl) g.low d i b) (g.level i a b);
        from = λ i a b. rw (ps i b) (g.from i a b);
        below = λ i a b. rw (ps i b) (g.below i a b);
        gives = λ i a b. rw (ps i b) (g.gives i a b);
      };
      rule = rule_same sys x.rule (let e = x.deep in omega arith) (λ i h. refl) ps (λ i h. refl);
    }

-- ---- a row

-- the masks of free before m, a row's pairs that are done
abbrev pub DoneTo : ℕ → ℕ → ℕ → Type 0
DoneTo free m = λ q. (q < m) × (submask free q ≡ true)

-- a row on the way: w' and n' are what has become of w and n, and m is the next mask
pub record RowTo (t : Table) (K : ℕ) (w w' heads' : List ℕ) (s : State) (n n' i free m : ℕ) : Type 0 where
  pub most : m ≤ 256
  pub is : m < 256 → submask free m ≡ true
  pub kept : Kept K w w' n n'
  pub indexed : Indexed K w' heads' n'
  pub here : s ≡ state_in w' i
  pub carries : Carries t K w w' n n' i (Before i) (Row i (DoneTo free m))

module _ {t : Table} {K : ℕ} {w heads : List ℕ} {n i : ℕ} (ready : RowReady t K w heads n i) {s : State} where
  pub row_start : s ≡ state_in w i → {free : ℕ} → free < 256 → RowTo t K w w heads s n n i free 0
  row_start here {free} small =
      record {
        most = omega arith;
        is = λ h. no_bits free small;
        kept = kept_none;
        indexed = ready.indexed;
        here = here;
        carries = λ ends marked lo hi d l h x. search_row (system t) x (λ q z. omega (arith, z.0));
      }

  module _ {w₁ heads₁ : List ℕ} {n₁ free m : ℕ} (x : RowTo t K w w₁ heads₁ s n n₁ i free m) (is : free ≡ free_mask t s) where
    below : i < n₁
    below = let a = ready.below in let b = x.kept.order in omega arith

    small : free < 256
    small = rw is (free_small t s)

    proper : improper t s ≡ false
    proper = rw (x.here ∙ x.kept.states i ready.below) ready.proper

    module _ (b : m < 256) where
      legal : submask (free_mask t s) m ≡ true
      legal = rw (← is) (x.is b)

      -- a state that m leads to is the one after the tick
      leads : (u : State) → step t (state_in w₁ i) m ≡ Next u → after t s m ≡ u
      leads u e =
          by_bool (missed t (after t s m))
          (λ q. absurd
          (let r : step t (state_in w₁ i) m ≡ Missed (after t s m) = rw (← x.here) (step_missed t ready.valid s proper m b legal q) in
          let z : ◌≡◌ {A = ℕ} 0 1 = cc in
          omega arith))
          (λ q.
          let r : step t (state_in w₁ i) m ≡ Next (after t s m) = rw (← x.here) (step_next t ready.valid s proper m b legal q) in
          cc)

      grow : (q : ℕ) → DoneTo free (follows free m) q → DoneTo free m q ⊎ (q ≡ m)
      grow q z = ⊎_elim (λ l. inl (l, z.1)) (λ e. inr e) (passed small b (x.is b) q z.0 z.1)

      -- from a level that was hunted, m does not miss
      gives : (ends : List ℕ) {lo hi d : ℕ} {T : ℕ → ℕ → Type 0} → i < hi → FillingIn t K ends w₁ lo hi n₁ d T → step t (state_in w₁ i) m ≡ Next (after t s m)
      gives ends h y =
          by_bool (missed t (after t s m))
          (λ q. absurd
          (y.storing.hunted (state_in w₁ i) (y.storing.old i h) m (after t s m)
          (rw (← x.here) (step_missed t ready.valid s proper m b legal q))))
          (λ q. rw (← x.here) (step_next t ready.valid s proper m b legal q))

      row_known : {w₂ heads₂ : List ℕ} → Known w₁ w₂ heads₁ heads₂ n₁ (after t s m) → RowTo t K w w₂ heads₂ s n n₁ i free (follows free m)
      row_known {w₂} {heads₂} y =
          let f = next_submask free m small b (x.is b) in
          rw (y.same, y.same_heads)
          (record {
            most = f.most;
            is = f.is;
            kept = x.kept;
            indexed = x.indexed;
            here = x.here;
            carries = λ ends marked lo hi d l h z. search_known (system t) (x.carries ends marked lo hi d l h z) m grow (λ u e. rw (leads u e) at y.held);
          })

      row_added : {w₂ heads₂ : List ℕ} → Added K w₁ w₂ heads₁ heads₂ n₁ (after t s m) i m → RowTo t K w w₂ heads₂ s n (n₁ + 1) i free (follows free m)
      row_added {w₂} {heads₂} y =
          let f = next_submask free m small b (x.is b) in
          let p = y.pushed in
          let few = x.indexed.few in
          let room = y.below in
          let low = below in
          record {
            most = f.most;
            is = f.is;
            kept = kept_join x.kept (record { order = omega arith; len = p.len; states = p.states; rest = p.rest });
            indexed = p.indexed;
            here = x.here ∙ sym (p.states i below);
            carries = λ ends marked lo hi d l h z.
                let v = x.carries ends marked lo hi d l h z in
                let more : Marked ends i n₁ = marked_more marked x.kept.order in
                rw add-one
                (search_push (system t) v p.states (λ j a. parent_same ends K w₁ w₂ j (p.words j a)) p.masks l h m grow
                (parent_now more (omega arith) (omega arith) K w₂ p.place) p.mask_is
                (rw p.state (gives ends h v)) (λ o. y.absent (rw p.state at o)));
          }

      -- a mask that there was room for
      pub row_stored :
          {w₂ heads₂ : List ℕ} {n₂ : ℕ}
          → ((n₂ ≡ n₁) × Known w₁ w₂ heads₁ heads₂ n₁ (after t s m)) ⊎ ((n₂ ≡ n₁ + 1) × Added K w₁ w₂ heads₁ heads₂ n₁ (after t s m) i m)
          → RowTo t K w w₂ heads₂ s n n₂ i free (follows free m)
      row_stored y = ⊎_elim (λ z. rw z.0 (row_known z.1)) (λ z. rw z.0 (row_added z.1)) y

      pub row_crowded : {w₂ : List ℕ} → Crowded K w₁ w₂ n₁ (after t s m) → RowFull t K w w₂ n i
      row_crowded {w₂} y =
          rw y.same
          (record {
            len = x.kept.len;
            rest = rw y.full at x.kept.rest;
            overfull = λ ends marked lo hi d l h z.
                let v : FillingIn t K ends w₁ lo hi K d (Row i (DoneTo free m)) = rw y.full at (x.carries ends marked lo hi d l h z) in
                let g = gives ends h (x.carries ends marked lo hi d l h z) in
                record {
                  verdict = search_room (system t) v i h m (after t s m) g (rw y.full at y.absent);
                  rule = v.rule;
                  stored = filled_stored (system t) v.storing;
                };
          })

    pub row_end : 256 ≤ m → RowDone t K w w₁ heads₁ n n₁ i
    row_end h =
        record {
          kept = x.kept;
          indexed = x.indexed;
          carries = λ ends marked lo hi d l b z. search_close (system t) (x.carries ends marked lo hi d l b z) others;
        }
      where
        others : (q : ℕ) → DoneTo free m q ⊎ (step t (state_in w₁ i) q ≡ Refused)
        others q =
            rw (← x.here)
            (⊎_elim (λ l. inl (omega (arith, l.0), rw is l.1)) (λ r. inr r) (legal_or_refused t ready.valid s proper q))

-- a row on the way, whose free mask and ticks the table made ready gives
pub record RowBy (t : Table) (ticker : Ticker) (state : Prepared) (K : ℕ) (w w' heads' : List ℕ) (n n' i free m : ℕ) : Type 0 where
  pub is : free ≡ free_mask t (state_in w i)
  pub ticks : (mask : ℕ) → state_of (ticked_by ticker state mask) ≡ after t (state_in w i) mask
  pub row : RowTo t K w w' heads' (state_in w i) n n' i free m

-- ---- a block

-- a block on the way: the rows from lo to i - 1 are done
pub record BlockTo (t : Table) (K : ℕ) (w w' heads' : List ℕ) (n n' lo hi i : ℕ) : Type 0 where
  pub from : lo ≤ i
  pub upto : i ≤ hi
  pub kept : Kept K w w' n n'
  pub indexed : Indexed K w' heads' n'
  pub advances : Advances t K w w' n n' lo hi i

module _ {t : Table} {K : ℕ} {w heads : List ℕ} {n lo hi : ℕ} (ready : BlockReady t K w heads n lo hi) where
  pub block_start : BlockTo t K w w heads n n lo hi lo
  block_start = record { from = omega arith; upto = ready.order; kept = kept_none; indexed = ready.indexed; advances = λ ends marked first last d l h x. x }

  module _ {w₁ heads₁ : List ℕ} {n₁ i : ℕ} (x : BlockTo t K w w₁ heads₁ n n₁ lo hi i) where
    module _ (h : i < hi) where
      pub block_ready : RowReady t K w₁ heads₁ n₁ i
      block_ready =
          let o = x.kept.order in
          let b = ready.below in
          record {
            valid = ready.valid;
            indexed = x.indexed;
            below = omega arith;
            proper = rw (x.kept.states i (omega arith)) (ready.proper i h);
          }

      -- the ends are those for slot i too
      here : {ends : List ℕ} → Marked ends lo n → Marked ends i n₁
      here marked = marked_more (marked_same marked x.from (let b = ready.block in omega arith)) x.kept.order

      pub block_row : {w₂ heads₂ : List ℕ} {n₂ : ℕ} → RowDone t K w₁ w₂ heads₂ n₁ n₂ i → BlockTo t K w w₂ heads₂ n n₂ lo hi (i + 1)
      block_row y =
          record {
            from = (let a = x.from in omega arith);
            upto = omega arith;
            kept = (let q = kept_join x.kept y.kept in q);
            indexed = y.indexed;
            advances = λ ends marked first last d l r z.
                rw add-one
                (y.carries ends (here marked) first last d (let a = x.from in omega arith) (omega arith) (x.advances ends marked first last d l r z));
          }

      pub block_full : {w₂ : List ℕ} → RowFull t K w₁ w₂ n₁ i → BlockFull t K w w₂ n lo hi
      block_full y =
          record {
            len = y.len ∙ x.kept.len;
            rest = stays_join x.indexed.room x.kept.rest y.rest;
            overfull = λ ends marked first last d l r z.
                y.overfull ends (here marked) first last d (let a = x.from in omega arith) (omega arith) (x.advances ends marked first last d l r z);
          }

    pub block_end : hi ≤ i → BlockDone t K w w₁ heads₁ n n₁ lo hi
    block_end h =
        let e : i ≡ hi = (let a = x.upto in omega arith) in
        record { kept = x.kept; indexed = x.indexed; advances = λ ends marked first last d l r z. rw e at (x.advances ends marked first last d l r z) }

-- ---- a level

-- a level on the way: the rows from lo to i - 1 are done
pub record LevelTo (t : Table) (K : ℕ) (ends ends' w w' heads' : List ℕ) (lo hi n i : ℕ) : Type 0 where
  pub from : lo ≤ i
  pub upto : i ≤ hi
  pub kept : Kept K w w' hi n
  pub indexed : Indexed K w' heads' n
  pub marked : Marked ends' i n
  pub filled : (d : ℕ) → FillingIn t K ends w lo hi hi d (Before lo) → FillingIn t K ends' w' lo hi n d (Before i)

pub level_start : {t : Table} {K : ℕ} {ends w heads : List ℕ} {lo hi : ℕ} → lo ≤ hi → Indexed K w heads hi → Marked ends lo hi → LevelTo t K ends ends w w heads lo hi hi lo
level_start h indexed marked = record { from = omega arith; upto = h; kept = kept_none; indexed = indexed; marked = marked; filled = λ d x. x }

module _ {t : Table} {K : ℕ} {ends ends₁ w w₁ heads₁ : List ℕ} {lo hi n i : ℕ} (x : LevelTo t K ends ends₁ w w₁ heads₁ lo hi n i) where
  -- the slots of a level are among a million
  pub level_low : hi ≤ 1000000
  level_low = let a = x.kept.order in let b = x.indexed.room in let c = x.indexed.few in omega arith

  module _ {to : ℕ} (up : i < to) (most : to ≤ hi) (block : to ≤ 4096 * (i / 4096 + 1)) where
    pub level_ready : Level t w hi → BlockReady t K w₁ heads₁ n i to
    level_ready level =
        record {
          valid = level.valid;
          indexed = x.indexed;
          order = omega arith;
          below = (let a = x.kept.order in omega arith);
          block = block;
          proper = λ j h. rw (x.kept.states j (omega arith)) (level.proper j (omega arith));
        }

    pub level_block : {w₂ heads₂ : List ℕ} {n₂ : ℕ} → BlockDone t K w₁ w₂ heads₂ n n₂ i to → LevelTo t K ends (ends_after ends₁ (to - 1) n₂) w w₂ heads₂ lo hi n₂ to
    level_block {w₂} {heads₂} {n₂} y =
        let more : Marked ends₁ (to - 1) n₂ = marked_more (marked_same x.marked (omega arith) (omega arith)) y.kept.order in
        let low : to - 1 < 1000000 = (let l = level_low in omega arith) in
        let e : to - 1 + 1 ≡ to = omega arith in
        record {
          from = (let a = x.from in omega arith);
          upto = most;
          kept = (let q = kept_join x.kept y.kept in q);
          indexed = y.indexed;
          marked = rw e at (marked_after more low);
          filled = λ d z.
              filling_parents (system t) (y.advances ends₁ x.marked lo hi d x.from most (x.filled d z))
              (parents_after more low (let a = y.indexed.room in let c = y.indexed.few in omega arith) K w₂);
        }

    pub level_full : {w₂ : List ℕ} → BlockFull t K w₁ w₂ n i to → LevelFull t K ends ends₁ w w₂ lo hi
    level_full {w₂} y =
        record {
          len = y.len ∙ x.kept.len;
          rest = stays_join x.indexed.room x.kept.rest y.rest;
          last = marked_last x.marked (let l = level_low in omega arith);
          overfull = λ d z. y.overfull ends₁ x.marked lo hi d x.from most (x.filled d z);
        }

  pub level_end : hi ≤ i → LevelDone t K ends ends₁ w w₁ heads₁ lo hi n
  level_end h =
      let e : i ≡ hi = (let a = x.upto in omega arith) in
      record { kept = x.kept; indexed = x.indexed; marked = rw e at x.marked; filled = λ d z. rw e at (x.filled d z) }
