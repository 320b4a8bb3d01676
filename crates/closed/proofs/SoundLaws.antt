-- When a state of a valid table is proper, by tests on its words. Assumes nothing.
use Prim.Native.Nat.{ℕ, zero, suc, ◌+◌, ◌/◌, ◌%◌, ◌≤◌, ◌<◌}
use mathlib.Core.Path.{◌≡◌, sym, ap₂, ◌∙◌}
use mathlib.Core.Bool.{Bool, true, false, ◌&&◌, ◌||◌}
use mathlib.Core.List.{List}
use native.Mathlib.Omega.{arith}
use native.Mathlib.Decide.{ℕ_discrete}
use borrow.Author.Tests.{ltb-false, lt-ltb, le-ltb}
use lib.Dec.{eqb, ltb}
use lib.ListN.{get_or}
use lib.Signed.{lt_z}
use Rattle.lists.specs.Lists.{count}
use Rattle.tasks.specs.Table.{table_fault}
use Rattle.tasks.specs.State.{not_preempted, started, keeps, late, improper}
use Rattle.tasks.specs.Tick.{missed}
use Rattle.tasks.specs.Tight.{tight_job, tight_at, tight}
use Rattle.tasks.specs.Words.{state_of}
use Rattle.tasks.specs.declared.state.State.{State}
use Rattle.tasks.specs.declared.table.Table.{Table}
use Rattle.lists.proofs.Bools.{by_bool, clash, both, or_left, or_right, nor_left, nor_right}
use Rattle.lists.proofs.Counts.{count_same, count_zero, any_false, none_any}
use Rattle.tasks.proofs.InWords.{work_word, gap_word}
use Rattle.tasks.proofs.Late.{late_yes}
use Rattle.tasks.proofs.Proper.{Fine, proper_task, proper_kept, is_proper}
use Rattle.jobs.proofs.Signed.{slack_sub, lt_z_sub, sub_ge}
use Rattle.tasks.proofs.Tables.{valid}
use Rattle.closed.specs.Keeping.{work_above, gap_above, exceeds}

-- ---- the tests of a task in words

module _ (t : Table) (v : List ℕ) (i : ℕ) (h : i < 8) where
  pub work_above_word : ltb (get_or t.work i 0) (get_or v i 0 % 256) ≡ work_above t (state_of v) i
  unfolding work_above
  work_above_word = rw (work_word v i h)

  pub gap_above_word : ltb (get_or t.gap i 0) (get_or v i 0 / 256) ≡ gap_above t (state_of v) i
  unfolding gap_above
  gap_above_word = rw (gap_word v i h)

  pub started_word : ltb 0 (get_or v i 0 % 256) && ltb (get_or v i 0 % 256) (get_or t.work i 0) ≡ started t (state_of v) i
  unfolding started
  started_word = rw (work_word v i h)

-- ---- counts

-- where the count is 0, k does not pass
count_false : (p : ℕ → Bool) (n k : ℕ) → count n p ≤ 0 → k < n → p k ≡ false
unfolding count
count_false p zero k e h = absurd (omega arith)
count_false p (suc n) k e h =
    elim (ℕ_discrete k n) [
      | yes q ↦ rw q (by_bool (p n) (λ y. absurd (let z = rw y at e in omega arith)) (λ y. y))
      | no q ↦ count_false p n k (omega arith) (omega arith)
    ]

-- ---- a task

module _ (t : Table) (s : State) (i : ℕ) where
  -- a late job is tight
  late_tight : late t s i ≡ true → tight_at t s i ≡ true
  unfolding tight_at tight_job
  late_tight e =
      let l = late_yes t s i e in
      let D = get_or t.deadline i 0 in
      let P = get_or t.gap i 0 in
      let c = get_or s.c i 0 in
      let p = get_or s.p i 0 in
      or_left (eqb p 0 && tight_job D P P (get_or t.work i 0))
      (both (lt-ltb 0 c l.0)
      (ap₂ lt_z (slack_sub D P p c) (sym (sub_ge 1 0 (omega arith)))
      ∙ lt_z_sub (D + p) (P + c) 1 0
      ∙ lt-ltb (D + p + 0) (1 + (P + c)) (omega (arith, l.1))))

  not_late : tight_at t s i ≡ false → late t s i ≡ false
  not_late e = by_bool (late t s i) (λ l. clash (late_tight l) e) (λ l. l)

  work_within : work_above t s i ≡ false → get_or s.c i 0 ≤ get_or t.work i 0
  unfolding work_above
  work_within e = ltb-false (get_or t.work i 0) (get_or s.c i 0) e

  gap_within : gap_above t s i ≡ false → get_or s.p i 0 ≤ get_or t.gap i 0
  unfolding gap_above
  gap_within e = ltb-false (get_or t.gap i 0) (get_or s.p i 0) e

  work_not_above : Fine t s i → work_above t s i ≡ false
  unfolding work_above
  work_not_above f = le-ltb (get_or t.work i 0) (get_or s.c i 0) f.work

  gap_not_above : Fine t s i → gap_above t s i ≡ false
  unfolding gap_above
  gap_not_above f = le-ltb (get_or t.gap i 0) (get_or s.p i 0) f.gap

  -- within C and P, and not late; the entries after the nth of a valid table are 0
  fine : table_fault t ≡ 0 → i < 8 → work_above t s i ≡ false → gap_above t s i ≡ false → late t s i ≡ false → Fine t s i
  fine fault h c p l =
      let work = work_within c in
      let gap = gap_within p in
      record {
        work = work;
        gap = gap;
        kept = l;
        past = λ k. let z = (valid t fault).rest i k h in (omega (arith, work, z.0), omega (arith, gap, z.2));
      }

-- ---- a state

module _ (t : Table) (s : State) where
  keeps_started : not_preempted t ≡ true → (i : ℕ) → keeps t s i ≡ started t s i
  unfolding keeps
  keeps_started e i = rw e

  keeps_none : not_preempted t ≡ false → (i : ℕ) → keeps t s i ≡ false
  unfolding keeps
  keeps_none e i = rw e

  few : not_preempted t && ltb t.m (count 8 (started t s)) ≡ false → count 8 (keeps t s) ≤ t.m
  few e =
      by_bool (not_preempted t)
      (λ h.
      let l : ltb t.m (count 8 (started t s)) ≡ false = rw h at e in
      omega (arith, ltb-false t.m (count 8 (started t s)) l, count_same (keeps t s) (started t s) 8 (λ i k. keeps_started h i)))
      (λ h. omega (arith, count_zero (keeps t s) 8 (λ i k. keeps_none h i)))

  not_crowded : count 8 (keeps t s) ≤ t.m → not_preempted t && ltb t.m (count 8 (started t s)) ≡ false
  not_crowded l =
      by_bool (not_preempted t)
      (λ h. rw h (le-ltb t.m (count 8 (started t s)) (omega (arith, l, count_same (keeps t s) (started t s) 8 (λ i k. keeps_started h i)))))
      (λ h. rw h)

  -- the test, by its parts
  pub exceeds_work : {x : ℕ} → x ≡ count 8 (work_above t s) → 0 < x → true ≡ exceeds t s
  unfolding exceeds
  exceeds_work e h =
      sym
      (or_left (not_preempted t && ltb t.m (count 8 (started t s)))
      (or_left (ltb 0 (count 8 (gap_above t s))) (lt-ltb 0 (count 8 (work_above t s)) (omega arith))))

  pub exceeds_gap : {x : ℕ} → x ≡ count 8 (gap_above t s) → 0 < x → true ≡ exceeds t s
  unfolding exceeds
  exceeds_gap e h =
      sym
      (or_left (not_preempted t && ltb t.m (count 8 (started t s)))
      (or_right (ltb 0 (count 8 (work_above t s))) (lt-ltb 0 (count 8 (gap_above t s)) (omega arith))))

  pub exceeds_kept :
      {x y n : ℕ} → x ≡ count 8 (work_above t s) → x ≤ 0 → y ≡ count 8 (gap_above t s) → y ≤ 0 → n ≡ count 8 (started t s)
      → not_preempted t && ltb t.m n ≡ exceeds t s
  unfolding exceeds
  exceeds_kept {x} {y} {n} ex hx ey hy en =
      rw (le-ltb 0 (count 8 (work_above t s)) (omega arith), le-ltb 0 (count 8 (gap_above t s)) (omega arith), en)

  -- LAW: a state of a valid table that exceeds nothing and has no late job is proper
  pub proper_by : table_fault t ≡ 0 → exceeds t s ≡ false → missed t s ≡ false → improper t s ≡ false
  unfolding exceeds missed
  proper_by fault e l =
      let work = ltb 0 (count 8 (work_above t s)) in
      let gap = ltb 0 (count 8 (gap_above t s)) in
      let crowded = not_preempted t && ltb t.m (count 8 (started t s)) in
      let above = nor_left (work || gap) crowded e in
      let c = ltb-false 0 (count 8 (work_above t s)) (nor_left work gap above) in
      let p = ltb-false 0 (count 8 (gap_above t s)) (nor_right work gap above) in
      is_proper t s
      (λ i h. fine t s i fault h (count_false (work_above t s) 8 i c h) (count_false (gap_above t s) 8 i p h) (any_false (late t s) 8 i l h))
      (few (nor_right (work || gap) crowded e))

  -- .. and a proper one exceeds nothing and has no late job
  pub proper_within : improper t s ≡ false → exceeds t s ≡ false
  unfolding exceeds
  proper_within proper =
      let c = count_zero (work_above t s) 8 (λ i h. work_not_above t s i (proper_task t s proper i h)) in
      let p = count_zero (gap_above t s) 8 (λ i h. gap_not_above t s i (proper_task t s proper i h)) in
      rw (le-ltb 0 (count 8 (work_above t s)) (omega arith), le-ltb 0 (count 8 (gap_above t s)) (omega arith)) (not_crowded (proper_kept t s proper))

  pub proper_kept_all : improper t s ≡ false → missed t s ≡ false
  unfolding missed
  proper_kept_all proper = none_any (late t s) 8 (λ i h. (proper_task t s proper i h).kept)

  -- LAW: where no job is tight, none is late
  pub loose_kept : tight t s ≡ false → missed t s ≡ false
  unfolding tight missed
  loose_kept e = none_any (late t s) 8 (λ i h. not_late t s i (any_false (tight_at t s) 8 i e h))
