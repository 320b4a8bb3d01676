-- Proper states: what they say of each task, how many tasks run from one, and that a tick leaves one. Assumes nothing.
use Prim.Native.Nat.{ℕ, ◌≤◌, ◌<◌}
use mathlib.Core.Path.{◌≡◌}
use mathlib.Core.Bool.{true, false, ◌&&◌, ◌||◌}
use native.Mathlib.Omega.{arith}
use lib.Dec.{ltb, leb}
use lib.ListN.{get_or}
use borrow.Author.Tests.{ltb-true, ltb-false, le-ltb, leb-true, le-leb}
use Rattle.lists.specs.Lists.{count, any}
use Rattle.tasks.specs.State.{start, not_preempted, started, keeps, late, improper_at, improper}
use Rattle.tasks.specs.Tick.{bit, illegal, released, ahead, runs, missed, after}
use Rattle.tasks.specs.declared.state.State.{State}
use Rattle.tasks.specs.declared.table.Table.{Table}
use Rattle.lists.proofs.Bools.{by_bool, and_left, and_right, both, or_left, nor_left, nor_right}
use Rattle.lists.proofs.Counts.{count_mono, count_zero, any_false, none_any}
use Rattle.lists.proofs.Fill.{eight_at}
use Rattle.tasks.proofs.Choice.{runs_fit}
use Rattle.tasks.proofs.Legal.{legal_bit}
use Rattle.tasks.proofs.After.{work_on, work_off, gap_on, gap_off, work_waited, work_falls, gap_after}

-- a proper task, in natural numbers
pub record Fine (t : Table) (s : State) (i : ℕ) : Type 0 where
  pub work : get_or s.c i 0 ≤ get_or t.work i 0
  pub gap : get_or s.p i 0 ≤ get_or t.gap i 0
  pub kept : late t s i ≡ false
  pub past : t.n ≤ i → (get_or s.c i 0 ≡ 0) × (get_or s.p i 0 ≡ 0)

module _ (t : Table) (s : State) (i : ℕ) where
  fine : improper_at t s i ≡ false → Fine t s i
  unfolding improper_at
  fine e =
      let C = get_or t.work i 0 in
      let P = get_or t.gap i 0 in
      let c = get_or s.c i 0 in
      let p = get_or s.p i 0 in
      let past = leb t.n i && (ltb 0 c || ltb 0 p) in
      let e₁ : ltb C c || ltb P p || late t s i ≡ false = nor_left (ltb C c || ltb P p || late t s i) past e in
      let e₂ : ltb C c || ltb P p ≡ false = nor_left (ltb C c || ltb P p) (late t s i) e₁ in
      record {
        work = ltb-false C c (nor_left (ltb C c) (ltb P p) e₂);
        gap = ltb-false P p (nor_right (ltb C c) (ltb P p) e₂);
        kept = nor_right (ltb C c || ltb P p) (late t s i) e₁;
        past = λ h.
            let z : ltb 0 c || ltb 0 p ≡ false = rw (le-leb t.n i h) at (nor_right (ltb C c || ltb P p || late t s i) past e) in
            (omega (arith, ltb-false 0 c (nor_left (ltb 0 c) (ltb 0 p) z)), omega (arith, ltb-false 0 p (nor_right (ltb 0 c) (ltb 0 p) z)));
      }

  not_improper : Fine t s i → improper_at t s i ≡ false
  unfolding improper_at
  not_improper f =
      let C = get_or t.work i 0 in
      let P = get_or t.gap i 0 in
      let c = get_or s.c i 0 in
      let p = get_or s.p i 0 in
      let q : leb t.n i && (ltb 0 c || ltb 0 p) ≡ false =
      by_bool (leb t.n i)
      (λ e. let z = f.past (leb-true t.n i e) in rw (e, le-ltb 0 c (omega arith), le-ltb 0 p (omega arith)))
      (λ e. rw e) in
      rw (le-ltb C c f.work, le-ltb P p f.gap, f.kept) q

-- a state is proper where each task is and at most m jobs keep a processor
module _ (t : Table) (s : State) where
  pub proper_task : improper t s ≡ false → (i : ℕ) → i < 8 → Fine t s i
  unfolding improper
  proper_task proper i h =
      fine t s i (any_false (improper_at t s) 8 i (nor_left (any 8 (improper_at t s)) (ltb t.m (count 8 (keeps t s))) proper) h)

  pub proper_kept : improper t s ≡ false → count 8 (keeps t s) ≤ t.m
  unfolding improper
  proper_kept proper =
      ltb-false t.m (count 8 (keeps t s)) (nor_right (any 8 (improper_at t s)) (ltb t.m (count 8 (keeps t s))) proper)

  pub is_proper : ((i : ℕ) → i < 8 → Fine t s i) → count 8 (keeps t s) ≤ t.m → improper t s ≡ false
  unfolding improper
  is_proper f few =
      rw (none_any (improper_at t s) 8 (λ i h. not_improper t s i (f i h))) (le-ltb t.m (count 8 (keeps t s)) few)

-- ---- the start state

module _ (t : Table) (i : ℕ) (h : i < 8) where
  start_work : get_or start.c i 0 ≡ 0
  start_work = eight_at 0 (λ k. 0) i h

  start_gap : get_or start.p i 0 ≡ 0
  start_gap = eight_at 0 (λ k. 0) i h

  start_late : late t start i ≡ false
  unfolding late
  start_late = rw start_work

  start_free : keeps t start i ≡ false
  unfolding keeps started
  start_free = rw start_work (by_bool (not_preempted t) (λ e. rw e) (λ e. rw e))

-- LAW: the start state is proper
pub start_proper : (t : Table) → improper t start ≡ false
start_proper t =
    is_proper t start
    (λ i h. record {
      work = omega (arith, start_work t i h);
      gap = omega (arith, start_gap t i h);
      kept = start_late t i h;
      past = λ q. (start_work t i h, start_gap t i h);
    })
    (omega (arith, count_zero (keeps t start) 8 (start_free t)))

-- ---- a tick

module _ (t : Table) (s : State) (mask : ℕ) where
  -- a job that keeps its processor after the release did so before it
  kept_before : (i : ℕ) → i < 8 → keeps t (released t s mask) i ≡ true → keeps t s i ≡ true
  unfolding keeps started
  kept_before i h e =
      let C = get_or t.work i 0 in
      let R = get_or (released t s mask).c i 0 in
      by_bool (bit mask i)
      (λ b.
      absurd
      (omega (arith, work_on t s mask i h b, ltb-true R C (and_right (ltb 0 R) (ltb R C) (and_right (not_preempted t) (ltb 0 R && ltb R C) e)))))
      (λ b. rw (work_off t s mask i h b) at e)

  -- one that keeps it after the run has run
  kept_ran : (i : ℕ) → i < 8 → keeps t (after t s mask) i ≡ true → runs t (released t s mask) i ≡ true
  unfolding keeps started runs
  kept_ran i h e =
      let C = get_or t.work i 0 in
      let R = get_or (released t s mask).c i 0 in
      by_bool (runs t (released t s mask) i) (λ r. r)
      (λ r.
      let k : keeps t (released t s mask) i ≡ true = rw (work_waited t s mask i h r) at e in
      both (and_left (ltb 0 R) (ltb R C) (and_right (not_preempted t) (ltb 0 R && ltb R C) k))
      (or_left (ltb (count 8 (ahead t (released t s mask) i)) t.m) k))

  -- from a proper state at most m jobs keep their processors after the release
  pub few_keep : improper t s ≡ false → count 8 (keeps t (released t s mask)) ≤ t.m
  few_keep proper =
      omega (arith, proper_kept t s proper, count_mono (keeps t (released t s mask)) (keeps t s) 8 kept_before)

  -- LAW: from a proper state at most m tasks run
  pub few_run : improper t s ≡ false → count 8 (runs t (released t s mask)) ≤ t.m
  few_run proper = runs_fit t (released t s mask) (few_keep proper)

  fine_after : illegal t s mask ≡ false → (i : ℕ) → i < 8 → Fine t s i → late t (after t s mask) i ≡ false → Fine t (after t s mask) i
  fine_after legal i h f kept =
      let c = work_falls t s mask i h in
      let p = gap_after t s mask i h in
      by_bool (bit mask i)
      (λ e.
      let c' = work_on t s mask i h e in
      let p' = gap_on t s mask i h e in
      record { work = omega arith; gap = omega arith; kept = kept; past = λ q. absurd (omega (arith, (legal_bit t s mask i h legal e).0)) })
      (λ e.
      let c' = work_off t s mask i h e in
      let p' = gap_off t s mask i h e in
      record {
        work = omega (arith, f.work);
        gap = omega (arith, f.gap);
        kept = kept;
        past = λ q. let z = f.past q in (omega arith, omega arith);
      })

  -- LAW: a tick that is neither refused nor missed leaves a proper state
  pub proper_after : improper t s ≡ false → illegal t s mask ≡ false → missed t (after t s mask) ≡ false → improper t (after t s mask) ≡ false
  unfolding missed
  proper_after proper legal kept =
      is_proper t (after t s mask)
      (λ i h. fine_after legal i h (proper_task t s proper i h) (any_false (late t (after t s mask)) 8 i kept h))
      (omega (arith, count_mono (keeps t (after t s mask)) (runs t (released t s mask)) 8 kept_ran, few_run proper))
