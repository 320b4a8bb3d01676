-- Counting the ticks of a list while it is played. Assumes nothing.
use Prim.Native.Nat.{ℕ, ◌+◌, ◌≤◌, ◌<◌}
use mathlib.Core.Path.{◌≡◌, refl, sym, ap, ◌∙◌}
use mathlib.Core.Bool.{Bool, false}
use mathlib.Core.List.{List}
use native.Mathlib.Omega.{arith}
use native.Mathlib.Nat.{zero-add}
use lib.ListN.{length, drop, get_or, drop_of_length-le}
use Rattle.lists.specs.Lists.{eight, pick}
use Rattle.lists.proofs.Fill.{filled_end, eight_at}
use Rattle.lists.proofs.Turns.{pick_most}
use Rattle.std.specs.Prelude.{Ok, Err}
use Rattle.tasks.specs.declared.refusal.Refusal.{Refusal}
use Rattle.tasks.specs.State.{start}
use Rattle.tasks.specs.Tick.{answered, ticked}
use Rattle.tasks.specs.declared.state.State.{State}
use Rattle.tasks.specs.declared.table.Table.{Table}
use Rattle.tasks.specs.declared.tick.Step.TheVariants.{Next, Missed}
use Rattle.tasks.specs.declared.tick.Ticked.{Ticked}
use Rattle.tasks.proofs.Played.{drop_step}
use Rattle.service.specs.Totals.{count_next, count_ticks}
use Rattle.service.specs.Raised.{Room, raised_at}

-- ---- one number

-- n of the ticks counted are among the first i, after which the state is s
pub record Counted (t : Table) (test : State → ℕ → Bool) (l : List ℕ) (s : State) (i n : ℕ) : Type 0 where
  pub sum : count_ticks t test start l ≡ n + count_ticks t test s (drop i l)
  pub few : n ≤ i

module _ (t : Table) (test : State → ℕ → Bool) (l : List ℕ) where
  counted_start : Counted t test l start 0 0
  counted_start = record { sum = sym (zero-add _); few = omega arith }

  -- the next tick, by what it answers
  tick_counted :
      (s : State) (i : ℕ) {r : Ticked} → i < length l → ticked t s (get_or l i 0) ≡ r
      → count_ticks t test s (drop i l)
      ≡ count_next (pick (test s (get_or l i 0)) 1 0) (count_ticks t test r.state (drop (i + 1) l)) r.answer
  unfolding count_ticks
  tick_counted s i h e = rw (drop_step l i h, e)

  counted_end : {s : State} {i n : ℕ} → Counted t test l s i n → length l ≤ i → n ≡ count_ticks t test start l
  unfolding count_ticks
  counted_end {s} {i} x h = let none : count_ticks t test s (drop i l) ≡ 0 = rw (drop_of_length-le l h) in omega (arith, x.sum, none)

  module _ {s : State} {i n : ℕ} (x : Counted t test l s i n) (h : i < length l) where
    counted_next : {s' : State} → ticked t s (get_or l i 0) ≡ answered (Ok Next) s' → Counted t test l s' (i + 1) (n + pick (test s (get_or l i 0)) 1 0)
    counted_next e =
        record {
          sum = omega (arith, x.sum, tick_counted s i h e);
          few = omega (arith, x.few, pick_most (test s (get_or l i 0)) 1);
        }

    counted_missed : {s' : State} → ticked t s (get_or l i 0) ≡ answered (Ok Missed) s' → n + pick (test s (get_or l i 0)) 1 0 ≡ count_ticks t test start l
    counted_missed e = omega (arith, x.sum, tick_counted s i h e)

    counted_refused : {s' : State} {r : Refusal} → ticked t s (get_or l i 0) ≡ answered (Err r) s' → n ≡ count_ticks t test start l
    counted_refused e = omega (arith, x.sum, tick_counted s i h e)

-- ---- a number of each task

pub record Totaled (t : Table) (test : ℕ → State → ℕ → Bool) (l : List ℕ) (s : State) (i : ℕ) (numbers : List ℕ) : Type 0 where
  pub len : length numbers ≡ 8
  pub each : (j : ℕ) → j < 8 → Counted t (test j) l s i (get_or numbers j 0)

module _ (t : Table) (test : ℕ → State → ℕ → Bool) (l : List ℕ) where
  -- eight numbers that are the whole counts
  all : {numbers : List ℕ} → length numbers ≡ 8 → ((j : ℕ) → j < 8 → get_or numbers j 0 ≡ count_ticks t (test j) start l)
      → numbers ≡ eight (λ j. count_ticks t (test j) start l)
  all n f = filled_end {i = 8} (record { len = n; done = f }) (omega arith)

  pub totaled_start : Totaled t test l start 0 (eight (λ j. 0))
  totaled_start = record { len = refl; each = λ j h. rw (eight_at {A = ℕ} 0 (λ k. 0) j h) (counted_start t (test j) l) }

  module _ {s : State} {i : ℕ} {numbers : List ℕ} (x : Totaled t test l s i numbers) where
    -- a list has fewer than 2^64 masks, so each number can be raised
    pub totaled_room : i < length l → length l ≤ 18446744073709551615 → Room numbers
    totaled_room h long = record { each = λ j b. omega (arith, (x.each j b).few) }

    pub totaled_end : length l ≤ i → numbers ≡ eight (λ j. count_ticks t (test j) start l)
    totaled_end h = all x.len (λ j b. counted_end t (test j) l (x.each j b) h)

    module _ (h : i < length l) where
      pub totaled_refused : {s' : State} {r : Refusal} → ticked t s (get_or l i 0) ≡ answered (Err r) s' → numbers ≡ eight (λ j. count_ticks t (test j) start l)
      totaled_refused e = all x.len (λ j b. counted_refused t (test j) l (x.each j b) h e)

      -- the numbers raised for the tasks that pass the test
      module _ (tasks : List Bool) {more : List ℕ} (which : (j : ℕ) → j < 8 → get_or tasks j false ≡ test j s (get_or l i 0)) (raised : more ≡ eight (raised_at numbers tasks)) where
        number_raised : (j : ℕ) → j < 8 → get_or more j 0 ≡ get_or numbers j 0 + pick (test j s (get_or l i 0)) 1 0
        unfolding raised_at
        number_raised j b =
            ap (λ (k : List ℕ). get_or k j 0) raised ∙ eight_at 0 (raised_at numbers tasks) j b ∙ ap (λ y. get_or numbers j 0 + pick y 1 0) (which j b)

        pub totaled_next : {s' : State} → ticked t s (get_or l i 0) ≡ answered (Ok Next) s' → Totaled t test l s' (i + 1) more
        totaled_next e =
            record {
              len = ap length raised;
              each = λ j b. rw (number_raised j b) (counted_next t (test j) l (x.each j b) h e);
            }

        pub totaled_missed : {s' : State} → ticked t s (get_or l i 0) ≡ answered (Ok Missed) s' → more ≡ eight (λ j. count_ticks t (test j) start l)
        totaled_missed e =
            all (ap length raised) (λ j b. number_raised j b ∙ counted_missed t (test j) l (x.each j b) h e)
