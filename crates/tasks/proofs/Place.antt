-- Places in the order of the jobs: a walk through them makes the choice of a tick. Assumes nothing.
use Prim.Native.Nat.{ℕ, suc, ◌+◌, ◌≤◌, ◌<◌}
use mathlib.Core.Path.{◌≡◌, refl, sym, ap, ◌∙◌}
use mathlib.Core.List.{List}
use mathlib.Core.Bool.{Bool, true, false}
use native.Mathlib.Omega.{arith}
use native.Mathlib.Decide.{ℕ_discrete}
use lib.IntN.{ℤ, pos}
use lib.ListN.{get_or}
use mir.Syntax.{w16}
use mir.Val.{Fits, bool_byte}
use borrow.Author.Tests.{eq-eqb, ne_eqb, lt-ltb, le-ltb}
use Rattle.lists.specs.Lists.{eight, count}
use Rattle.tasks.specs.State.{not_preempted, ready, started, keeps}
use Rattle.tasks.specs.Tick.{key, age, before, ahead, runs, chosen}
use Rattle.cores.specs.Walk.{under, sooner, leads, rank, kept_count, taken}
use Rattle.tasks.specs.Places.{earlier, place, before_in, earlier_in}
use Rattle.tasks.specs.declared.state.State.{State}
use Rattle.tasks.specs.declared.table.Table.{Table}
use Rattle.lists.proofs.Fill.{eight_at, eight_same}
use Rattle.lists.proofs.Bools.{by_bool}
use Rattle.lists.proofs.Counts.{count_same}
use Rattle.lists.proofs.Turns.{count_turn, count_room, count_le}
use Rattle.cores.proofs.RankLaws.{sooner_some}
use Rattle.tasks.proofs.Order.{fewer_before}
use Rattle.tasks.proofs.Choice.{in_order}

-- the job of task i waits for a processor
pub record Waits (t : Table) (s : State) (i : ℕ) : Type 0 where
  pub small : i < 8
  pub has : ready s i ≡ true
  pub free : keeps t s i ≡ false

-- the places are those of a state's tasks: the jobs that wait stand in the order of the model
pub record Placed (t : Table) (s : State) (places : List ℕ) : Type 0 where
  pub none : (i : ℕ) → i < 8 → ready s i ≡ false → get_or places i 0 ≡ 65535
  pub kept : (i : ℕ) → i < 8 → ready s i ≡ true → keeps t s i ≡ true → get_or places i 0 ≡ 0
  pub some : (i : ℕ) → Waits t s i → (0 < get_or places i 0) × (get_or places i 0 < 65534)
  pub order : (j i : ℕ) → Waits t s j → Waits t s i → sooner (get_or places j 0) j (get_or places i 0) i ≡ before t s j i

-- a task with no job goes before none that has one
sooner_none : (j x i : ℕ) → x < 65534 → sooner 65535 j x i ≡ false
unfolding sooner
sooner_none j x i h = rw (lt-ltb x 65534 h, le-ltb 65534 x (omega arith), ne_eqb 65534 x (λ e. omega arith))

-- ---- the choice by any such places

module _ (t : Table) (s : State) (places : List ℕ) (placed : Placed t s places) where
  -- those that go before a job that waits are those ahead of it
  place_ahead : (j i : ℕ) → j < 8 → Waits t s i → leads places i j ≡ ahead t s i j
  unfolding ahead leads
  place_ahead j i h w =
      let x = get_or places i 0 in
      by_bool (ready s j)
      (λ y.
      by_bool (keeps t s j)
      (λ z. rw (placed.kept j h y z, y, z) (sooner_some 0 j x i (omega arith) (placed.some i w).1 ∙ rw (lt-ltb 0 x (placed.some i w).0)))
      (λ z. rw (y, z) (placed.order j i (record { small = h; has = y; free = z }) w)))
      (λ y.
      rw (placed.none j h y, y) (sooner_none j x i (placed.some i w).1))

  counted : (i : ℕ) → Waits t s i → rank places 8 i ≡ count 8 (ahead t s i)
  unfolding rank
  counted i w = count_same (leads places i) (ahead t s i) 8 (λ j k. place_ahead j i k w)

  pub taken_runs : (i : ℕ) → i < 8 → taken places t.m i ≡ runs t s i
  unfolding taken under runs
  taken_runs i h =
      by_bool (ready s i)
      (λ r.
      by_bool (keeps t s i)
      (λ e. rw (placed.kept i h r e, r, e))
      (λ e.
      let w : Waits t s i = record { small = h; has = r; free = e } in
      rw (counted i w, r, e, lt-ltb (get_or places i 0) 65534 (placed.some i w).1, le-ltb (get_or places i 0) 1 (placed.some i w).0)))
      (λ r. rw (placed.none i h r, r))

  -- LAW: the tasks taken by their places are those that run
  pub taken_chosen : eight (taken places t.m) ≡ chosen t s
  unfolding chosen
  taken_chosen = eight_same (taken places t.m) (runs t s) taken_runs

  kept_place : (i : ℕ) → i < 8 → under places 1 i ≡ keeps t s i
  unfolding under keeps started
  kept_place i h =
      by_bool (ready s i)
      (λ r. by_bool (keeps t s i)
      (λ e. rw (placed.kept i h r e) (sym e))
      (λ e. le-ltb (get_or places i 0) 1 (placed.some i (record { small = h; has = r; free = e })).0 ∙ sym e))
      (λ r. rw (placed.none i h r, r) (by_bool (not_preempted t) (λ b. rw b) (λ b. rw b)))

  -- LAW: as many places are 0 as jobs keep their processors
  pub places_kept : kept_count places ≡ count 8 (keeps t s)
  unfolding kept_count
  places_kept = count_same (under places 1) (keeps t s) 8 kept_place

-- ---- how many go before, counted for all tasks at once

module _ (keys ages : List ℤ) where
  pub earlier_start : eight (λ i. 0) ≡ eight (earlier_in keys ages 0)
  unfolding earlier_in count
  earlier_start = refl

  module _ {counts : List ℕ} (j i : ℕ) (e : counts ≡ eight (earlier_in keys ages j)) (h : i < 8) where
    earlier_read : get_or counts i 0 ≡ earlier_in keys ages j i
    earlier_read = ap (λ l. get_or l i 0) e ∙ eight_at 0 (earlier_in keys ages j) i h

    pub earlier_turn : {b : Bool} → b ≡ before_in keys ages j i → get_or counts i 0 + bool_byte b ≡ earlier_in keys ages (j + 1) i
    unfolding earlier_in
    earlier_turn is = count_turn (λ k. before_in keys ages k i) j earlier_read is

    pub earlier_room : (b : Bool) → j ≤ 8 → Fits w16 (get_or counts i 0 + bool_byte b)
    unfolding earlier_in
    earlier_room b k = let f = count_room (λ k. before_in keys ages k i) b earlier_read k in omega arith

-- ---- a place that says how many go before

module _ (t : Table) (s : State) where
  at : (i : ℕ) → i < 8 → get_or (eight (place t s)) i 0 ≡ place t s i
  at = eight_at 0 (place t s)

  place_none : (i : ℕ) → ready s i ≡ false → place t s i ≡ 65535
  unfolding place
  place_none i r = rw r

  place_kept : (i : ℕ) → ready s i ≡ true → keeps t s i ≡ true → place t s i ≡ 0
  unfolding place
  place_kept i r e = rw (r, e)

  place_waits : (i : ℕ) → Waits t s i → get_or (eight (place t s)) i 0 ≡ suc (earlier t s i)
  unfolding place
  place_waits i w = at i w.small ∙ rw (w.has, w.free)

  before_in_lem : (j i : ℕ) → j < 8 → i < 8 → before_in (eight (key t s)) (eight (age t s)) j i ≡ before t s j i
  unfolding before_in before
  before_in_lem j i h k =
      rw (eight_at (pos 0) (key t s) j h, eight_at (pos 0) (key t s) i k, eight_at (pos 0) (age t s) j h, eight_at (pos 0) (age t s) i k)

  -- by keys and ages made once for all tasks, as many go before
  earlier_in_lem : (i : ℕ) → i < 8 → earlier_in (eight (key t s)) (eight (age t s)) 8 i ≡ earlier t s i
  unfolding earlier_in earlier
  earlier_in_lem i h = count_same (λ j. before_in (eight (key t s)) (eight (age t s)) j i) (λ j. before t s j i) 8 (λ j k. before_in_lem j i k h)

  pub earlier_lists : eight (earlier_in (eight (key t s)) (eight (age t s)) 8) ≡ eight (earlier t s)
  unfolding earlier
  earlier_lists = eight_same (earlier_in (eight (key t s)) (eight (age t s)) 8) (earlier t s) earlier_in_lem

  -- how many go before task i, read off a list, and that they are at most 8
  pub earlier_listed : {counts : List ℕ} → counts ≡ eight (earlier t s) → (i : ℕ) → i < 8 → (get_or counts i 0 ≡ earlier t s i) × (get_or counts i 0 ≤ 8)
  unfolding earlier
  earlier_listed e i h =
      let is = ap (λ l. get_or l i 0) e ∙ eight_at 0 (earlier t s) i h in
      (is, omega (arith, is, count_le (λ j. before t s j i) 8))

  -- .. and so off the list that is counted by keys and ages
  pub earlier_counted :
      {counts : List ℕ} → counts ≡ eight (earlier_in (eight (key t s)) (eight (age t s)) 8) → (i : ℕ) → i < 8
      → (get_or counts i 0 ≡ earlier t s i) × (get_or counts i 0 ≤ 8)
  earlier_counted e = earlier_listed (e ∙ earlier_lists)

  earlier_less : (j i : ℕ) → j < 8 → before t s j i ≡ true → earlier t s j < earlier t s i
  unfolding earlier
  earlier_less j i h e = fewer_before (before t s) (in_order t s) 8 j i h e

  earlier_most : (i : ℕ) → earlier t s i < 9
  unfolding earlier
  earlier_most i = omega (arith, count_le (λ j. before t s j i) 8)

  -- how many go before tells two tasks apart as the order does
  sooner_earlier : (j i : ℕ) → j < 8 → i < 8 → sooner (suc (earlier t s j)) j (suc (earlier t s i)) i ≡ before t s j i
  sooner_earlier j i h k =
      let y = suc (earlier t s j) in
      let x = suc (earlier t s i) in
      sooner_some y j x i (omega (arith, earlier_most j)) (omega (arith, earlier_most i))
      ∙ by_bool (before t s j i)
      (λ e. rw (e, lt-ltb y x (omega (arith, earlier_less j i h e))))
      (λ e. elim (ℕ_discrete j i) [
        | yes q ↦ rw (e, q, le-ltb x x (omega arith), eq-eqb x x (omega arith), le-ltb i i (omega arith))
        | no d ↦
            let l = earlier_less i j k ((in_order t s).total j i d e) in
            rw (e, le-ltb y x (omega arith), ne_eqb y x (λ z. omega arith))
      ])

  -- LAW: these places stand in the order of the jobs, for any state
  pub places_placed : Placed t s (eight (place t s))
  places_placed =
      record {
        none = λ i h r. at i h ∙ place_none i r;
        kept = λ i h r e. at i h ∙ place_kept i r e;
        some = λ i w. (omega (arith, place_waits i w), omega (arith, place_waits i w, earlier_most i));
        order = λ j i w x. rw (place_waits j w, place_waits i x) (sooner_earlier j i w.small x.small);
      }
