-- The laws of the search's steps over the work space: it starts, goes on by a level, and ends with a verdict. Assumes nothing.
use Prim.Native.Nat.{ℕ, ◌+◌, ◌≤◌}
use mathlib.Core.Path.{◌≡◌, refl, ◌∙◌}
use mathlib.Core.List.{List, []}
use native.Mathlib.Omega.{arith}
use native.Mathlib.Numerals.{add-one}
use lib.ListN.{length}
use Rattle.tasks.specs.State.{start}
use Rattle.tasks.specs.declared.state.State.{State}
use Rattle.tasks.specs.declared.table.Table.{Table}
use Rattle.levels.specs.Verdict.Answer.{Safe, NoRoom}
use Rattle.levels.specs.Levels.{Before, Hunting}
use Rattle.levels.proofs.Replay.{reached}
use Rattle.levels.proofs.Slots.{level_stored, miss_complete, filled_stored, safe_complete}
use Rattle.levels.proofs.Steps.{Standing, search_start, search_miss, search_open, search_next, search_safe}
use Rattle.states.specs.Bytes.{state_in}
use Rattle.states.specs.System.{system}
use Rattle.states.proofs.SystemLaws.{reached_proper}
use Rattle.slots.specs.Layout.{columns, mask_at, Stays}
use Rattle.slots.specs.Running.{parent_in, Marked}
use Rattle.slots.proofs.LayoutLaws.{stays_none, stays_join}
use Rattle.slots.proofs.RunningLaws.{marked_more, marked_last, parent_now}
use Rattle.search.specs.Indexed.{Indexed, Pushed}
use Rattle.search.specs.Keeping.{FillingIn, Level, MissFrom, Overfull, LevelDone, LevelFull, Fresh, Ran, RanMissed}
use Rattle.search.proofs.IndexLaws.{indexed_start}

abbrev pub StandingIn : Table → ℕ → List ℕ → List ℕ → ℕ → ℕ → ℕ → Type 0
StandingIn t K ends w lo hi d = Standing (system t) (state_in w) (parent_in K ends w) (mask_at (columns K) w) 0 lo hi d

-- the search stands at level d, in slots lo to hi - 1; w is what the work space held when its loop began
pub record Stands (t : Table) (K : ℕ) (ends w w' heads' : List ℕ) (lo hi d : ℕ) : Type 0 where
  pub indexed : Indexed K w' heads' hi
  pub marked : Marked ends lo hi
  pub standing : StandingIn t K ends w' lo hi d
  pub rest : Stays (columns K) hi w w'
  pub len : length w' ≡ length w

module _ {t : Table} {K : ℕ} {ends w heads : List ℕ} (fresh : Fresh t K ends w heads) where
  -- no slot is filled yet
  pub none_indexed : Indexed K w heads 0
  none_indexed = indexed_start w heads fresh.few fresh.fits fresh.buckets fresh.empty

  -- slot 0 holds the start state: level 0
  pub first_stands : {w₀ heads₀ : List ℕ} {s : State} → s ≡ start → Pushed K w w₀ heads heads₀ 0 s 0 0 → Stands t K ends w₀ w₀ heads₀ 0 1 0
  first_stands {w₀} {heads₀} {s} e p =
      record {
        indexed = p.indexed;
        marked = marked_more fresh.marked (omega arith);
        standing =
            search_start (system t) (state_in w₀) (parent_in K ends w₀) (mask_at (columns K) w₀) (p.state ∙ e)
            (parent_now fresh.marked (omega arith) (omega arith) K w₀ p.place) p.mask_is;
        rest = stays_none;
        len = refl;
      }

  module _ {ends₁ w₀ w₁ heads₁ : List ℕ} {lo hi d : ℕ} (x : Stands t K ends₁ w₀ w₁ heads₁ lo hi d) where
    -- what the hunt and the storing ask
    pub stands_level : Level t w₁ hi
    stands_level =
        record {
          valid = fresh.valid;
          fits = (let a = x.indexed.fits in let b = x.indexed.room in omega arith);
          proper = λ i h. reached_proper t fresh.valid (state_in w₁ i) (reached (system t) (x.standing.explored.sound i h));
        }

    few : hi ≤ 1000000
    few = let a = x.indexed.room in let b = x.indexed.few in omega arith

    -- the level is done, and it has successors that are new
    pub next_stands :
        {ends₂ w₂ heads₂ : List ℕ} {n : ℕ} → Hunting (system t) (state_in w₁) lo hi → LevelDone t K ends₁ ends₂ w₁ w₂ heads₂ lo hi n → (n ≡ hi → ⊥)
        → Stands t K ends₂ w₀ w₂ heads₂ hi n (d + 1)
    next_stands {ends₂} {w₂} {heads₂} {n} hunted y new =
        let o = y.kept.order in
        record {
          indexed = y.indexed;
          marked = y.marked;
          standing = rw add-one (search_next (system t) (y.filled d (search_open (system t) x.standing hunted)) (omega arith));
          rest = stays_join o x.rest y.kept.rest;
          len = y.kept.len ∙ x.len;
        }

    -- ---- the ends; w₀ is the work space with slot 0 written

    module _ (first : Stays (columns K) 1 w w₀) where
      stays : Stays (columns K) hi w w₁
      stays = stays_join (let a = x.standing.deep in omega arith) first x.rest

      -- a mask misses
      pub ran_miss : {i m : ℕ} → MissFrom t w₁ lo hi i m → RanMissed t K ends₁ w w₁ i m d hi
      ran_miss {i} {m} y =
          record {
            below = y.below;
            deep = x.standing.deep;
            low = x.standing.low;
            ran =
                record {
                  some = (let a = x.standing.deep in omega arith);
                  most = x.indexed.room;
                  last = marked_last x.marked (let a = x.standing.explored.order in let b = few in omega arith);
                  verdict = search_miss (system t) x.standing x.indexed.room i y.from y.below m y.missed;
                  rule = x.standing.rule;
                  stored = level_stored (system t) x.standing.explored;
                  complete = miss_complete (system t) x.standing.explored;
                  rest = stays;
                };
          }

      -- nothing new
      pub ran_safe : {ends₂ w₂ heads₂ : List ℕ} {n : ℕ} → Hunting (system t) (state_in w₁) lo hi → LevelDone t K ends₁ ends₂ w₁ w₂ heads₂ lo hi n → n ≡ hi → Ran t K ends₂ w w₂ (Safe hi) []
      ran_safe {ends₂} {w₂} {heads₂} {n} hunted y old =
          record {
            some = (let a = x.standing.deep in omega arith);
            most = x.indexed.room;
            last = marked_last y.marked few;
            verdict = search_safe (system t) filled K x.indexed.room [];
            rule = filled.rule;
            stored = filled_stored (system t) filled.storing;
            complete = safe_complete (system t) filled.storing (λ i m h. h);
            rest = stays_join (omega arith) stays (rw old at y.kept.rest);
          }
        where
          filled : FillingIn t K ends₂ w₂ lo hi hi d (Before hi)
          filled = rw old at (y.filled d (search_open (system t) x.standing hunted))

      -- no room
      pub ran_full : {ends₂ w₂ : List ℕ} → Hunting (system t) (state_in w₁) lo hi → LevelFull t K ends₁ ends₂ w₁ w₂ lo hi → Ran t K ends₂ w w₂ (NoRoom K) []
      ran_full {ends₂} {w₂} hunted y =
          let full : Overfull t K ends₂ w₂ = y.overfull d (search_open (system t) x.standing hunted) in
          record {
            some = fresh.some;
            most = omega arith;
            last = y.last;
            verdict = full.verdict [];
            rule = full.rule;
            stored = full.stored;
            complete = tt;
            rest = stays_join x.indexed.room stays y.rest;
          }
