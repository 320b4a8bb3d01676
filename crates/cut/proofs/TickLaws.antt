-- One tick of a cut table: what is true under every policy, and under P-GFP, where a job waits for the tasks before its own and no others.
-- Assumes nothing.
use Prim.Native.Nat.{ℕ, ◌-◌, ◌<◌}
use mathlib.Core.Path.{◌≡◌, refl, sym, ap, ap₂, ◌∙◌}
use mathlib.Core.Bool.{Bool, true, false, ◌&&◌, ◌||◌}
use mathlib.Core.List.{List}
use native.Mathlib.Omega.{arith}
use lib.Dec.{eqb, ltb}
use lib.ListN.{get_or}
use borrow.Author.Tests.{lt-ltb, le-ltb, ltb-true, ltb-false}
use Rattle.lists.specs.Lists.{eight, pick, count}
use Rattle.lists.proofs.Bools.{by_bool, clash, and_right}
use Rattle.lists.proofs.Counts.{count_mono, count_same, any_false, none_any}
use Rattle.lists.proofs.Fill.{eight_at, eight_same}
use Rattle.jobs.specs.Job.{job_key, job_age}
use Rattle.tasks.specs.State.{ready, not_preempted, started, keeps, late, improper}
use Rattle.tasks.specs.Tick.{illegal, released_at, released, key, age, before, ahead, runs, chosen, ran_at, fallen, ran, after, missed}
use Rattle.tasks.specs.declared.state.State.{State}
use Rattle.tasks.specs.declared.table.Table.{Table}
use Rattle.tasks.proofs.Legal.{legal_bit, bits_legal}
use Rattle.tasks.proofs.Proper.{Fine, proper_task, proper_kept, is_proper}
use Rattle.cut.specs.Cut.{first_of, cut_table, cut_state}
use Rattle.cut.proofs.CutLaws.{first_in, first_out, SameTask, task_in, by_task, LowBits}

-- ---- a task with the same numbers in two tables and two states

module _ (t u : Table) (s v : State) (i : ℕ) (e : SameTask t u s v i) where
  pub same_late : late t s i ≡ late u v i
  unfolding late
  same_late = rw (e.deadline, e.gap, e.c, e.p)

  pub same_started : started t s i ≡ started u v i
  unfolding started
  same_started = rw (e.work, e.c)

  pub same_keeps : t.policy ≡ u.policy → keeps t s i ≡ keeps u v i
  unfolding keeps
  same_keeps p = ap₂ (λ x b. (eqb x 0 || eqb x 2) && b) p same_started

  pub same_runs : keeps t s i ≡ keeps u v i → count 8 (ahead t s i) ≡ count 8 (ahead u v i) → t.m ≡ u.m → runs t s i ≡ runs u v i
  unfolding runs
  same_runs kept before m = rw (e.c, kept, before, m)

-- ---- a task with no job

module _ (t : Table) (s : State) (i : ℕ) (e : get_or s.c i 0 ≡ 0) where
  pub none_late : late t s i ≡ false
  unfolding late
  none_late = rw e

  pub none_started : started t s i ≡ false
  unfolding started
  none_started = rw e

  pub none_runs : runs t s i ≡ false
  unfolding runs
  none_runs = rw e

module _ (k : ℕ) (t : Table) where
  pub cut_n : (cut_table k t).n ≡ k
  unfolding cut_table
  cut_n = refl

  pub cut_m : (cut_table k t).m ≡ t.m
  unfolding cut_table
  cut_m = refl

  pub cut_policy : (cut_table k t).policy ≡ t.policy
  unfolding cut_table
  cut_policy = refl

-- ---- under every policy

module _ (k : ℕ) (t : Table) (s : State) where
  -- LAW: where no job of the whole is late, none of the cut is
  pub cut_missed : missed t s ≡ false → missed (cut_table k t) (cut_state k s) ≡ false
  unfolding missed
  cut_missed e =
      none_any (late (cut_table k t) (cut_state k s)) 8
      (λ i h.
      by_task k t s i h
      (λ b same. same_late (cut_table k t) t (cut_state k s) s i same ∙ any_false (late t s) 8 i e h)
      (λ b none. none_late (cut_table k t) (cut_state k s) i none.c))

  keeps_too : (i : ℕ) → i < 8 → keeps (cut_table k t) (cut_state k s) i ≡ true → keeps t s i ≡ true
  unfolding keeps
  keeps_too i h e =
      by_task k t s i h
      (λ b same. sym (same_keeps (cut_table k t) t (cut_state k s) s i same (cut_policy k t)) ∙ e)
      (λ b none. clash (and_right (not_preempted (cut_table k t)) (started (cut_table k t) (cut_state k s) i) e) (none_started (cut_table k t) (cut_state k s) i none.c))

  cut_fine : (i : ℕ) → i < 8 → Fine t s i → Fine (cut_table k t) (cut_state k s) i
  cut_fine i h f =
      by_task k t s i h
      (λ b same. record {
        work = rw (same.c, same.work) f.work;
        gap = rw (same.p, same.gap) f.gap;
        kept = same_late (cut_table k t) t (cut_state k s) s i same ∙ f.kept;
        past = λ q. absurd (omega (arith, cut_n k t));
      })
      (λ b none. record {
        work = rw (none.c, none.work) (omega arith);
        gap = rw (none.p, none.gap) (omega arith);
        kept = none_late (cut_table k t) (cut_state k s) i none.c;
        past = λ q. (none.c, none.p);
      })

  -- LAW: the cut of a proper state is proper in the cut table
  pub cut_proper : improper t s ≡ false → improper (cut_table k t) (cut_state k s) ≡ false
  cut_proper proper =
      is_proper (cut_table k t) (cut_state k s) (λ i h. cut_fine i h (proper_task t s proper i h))
      (omega (arith, cut_m k t, proper_kept t s proper, count_mono (keeps (cut_table k t) (cut_state k s)) (keeps t s) 8 keeps_too))

  -- LAW: a legal mask's low bits are legal in the cut
  pub cut_legal : {low : ℕ} (mask : ℕ) → LowBits k low mask → illegal t s mask ≡ false → illegal (cut_table k t) (cut_state k s) low ≡ false
  cut_legal {low} mask bits legal =
      bits_legal (cut_table k t) (cut_state k s) low
      (λ i h e.
      by_task k t s i h
      (λ b same.
      let l = legal_bit t s mask i h legal (sym (bits.below i h b) ∙ e) in
      (rw (cut_n k t) b, same.p ∙ l.1))
      (λ b none. clash e (bits.above i h b)))

  -- LAW: the release of the low bits in the cut is the cut of the release
  module _ {low mask : ℕ} (bits : LowBits k low mask) where
    first_released : (full old : List ℕ) → eight (released_at (first_of k full) (first_of k old) low) ≡ first_of k (eight (released_at full old mask))
    unfolding released_at
    first_released full old =
        eight_same (released_at (first_of k full) (first_of k old) low) (λ i. pick (ltb i k) (get_or (eight (released_at full old mask)) i 0) 0)
        (λ i h.
        by_bool (ltb i k)
        (λ e.
        let b = ltb-true i k e in
        rw (e, first_in k full i h b, first_in k old i h b, bits.below i h b) (sym (eight_at 0 (released_at full old mask) i h)))
        (λ e.
        let b = ltb-false i k e in
        rw (e, bits.above i h b, first_out k old i h b)))

    pub cut_released : released (cut_table k t) (cut_state k s) low ≡ cut_state k (released t s mask)
    unfolding released cut_table cut_state
    cut_released = λ x. record { c = first_released t.work s.c x; p = first_released t.gap s.p x }

-- ---- under P-GFP

and_false : (a : Bool) → a && false ≡ false
and_false true = refl
and_false false = refl

module _ (t : Table) (fixed : t.policy ≡ 1) (s : State) where
  -- LAW: no job keeps its processor, and the task number alone decides
  pub fixed_keeps : (i : ℕ) → keeps t s i ≡ false
  unfolding keeps
  fixed_keeps i = rw fixed

  pub fixed_ahead : (i j : ℕ) → ahead t s i j ≡ ready s j && ltb j i
  unfolding ahead before key age job_key job_age
  fixed_ahead i j = rw (fixed_keeps j, fixed)

module _ (k : ℕ) (t : Table) (fixed : t.policy ≡ 1) (s : State) where
  cut_fixed : (cut_table k t).policy ≡ 1
  cut_fixed = cut_policy k t ∙ fixed

  cut_ahead : (i j : ℕ) → i < k → j < 8 → ahead (cut_table k t) (cut_state k s) i j ≡ ahead t s i j
  cut_ahead i j b h =
      fixed_ahead (cut_table k t) cut_fixed (cut_state k s) i j
      ∙ by_bool (ltb j i)
      (λ e. rw (task_in k t s j h (omega (arith, ltb-true j i e))).c)
      (λ e. rw e (and_false (ready (cut_state k s) j) ∙ sym (and_false (ready s j))))
      ∙ sym (fixed_ahead t fixed s i j)

  -- LAW: each of the first k tasks runs in the cut exactly where it runs in the whole
  pub cut_runs : (i : ℕ) → i < 8 → i < k → runs (cut_table k t) (cut_state k s) i ≡ runs t s i
  cut_runs i h b =
      same_runs (cut_table k t) t (cut_state k s) s i (task_in k t s i h b)
      (fixed_keeps (cut_table k t) cut_fixed (cut_state k s) i ∙ sym (fixed_keeps t fixed s i))
      (count_same (ahead (cut_table k t) (cut_state k s) i) (ahead t s i) 8 (λ j l. cut_ahead i j b l)) (cut_m k t)

  ran_work : eight (ran_at (cut_state k s).c (chosen (cut_table k t) (cut_state k s))) ≡ first_of k (eight (ran_at s.c (chosen t s)))
  unfolding ran_at chosen
  ran_work =
      eight_same (ran_at (cut_state k s).c (chosen (cut_table k t) (cut_state k s))) (λ i. pick (ltb i k) (get_or (eight (ran_at s.c (chosen t s))) i 0) 0)
      (λ i h.
      by_task k t s i h
      (λ b same.
      rw (lt-ltb i k b, eight_at false (runs (cut_table k t) (cut_state k s)) i h, cut_runs i h b, same.c)
      (sym (eight_at 0 (ran_at s.c (chosen t s)) i h ∙ ap (λ r. pick r (get_or s.c i 0 - 1) (get_or s.c i 0)) (eight_at false (runs t s) i h))))
      (λ b none.
      rw (le-ltb i k b, eight_at false (runs (cut_table k t) (cut_state k s)) i h, none_runs (cut_table k t) (cut_state k s) i none.c, none.c)))

  ran_gap : eight (fallen (cut_state k s).p) ≡ first_of k (eight (fallen s.p))
  unfolding fallen
  ran_gap =
      eight_same (fallen (cut_state k s).p) (λ i. pick (ltb i k) (get_or (eight (fallen s.p)) i 0) 0)
      (λ i h.
      by_task k t s i h
      (λ b same. rw (lt-ltb i k b, same.p) (sym (eight_at 0 (fallen s.p) i h)))
      (λ b none. rw (le-ltb i k b, none.p)))

  cut_ran : ran (cut_state k s) (chosen (cut_table k t) (cut_state k s)) ≡ cut_state k (ran s (chosen t s))
  unfolding ran cut_state
  cut_ran = λ x. record { c = ran_work x; p = ran_gap x }

-- LAW: a tick of the cut table with the low bits of a mask leaves the cut of what the tick of the whole leaves
pub cut_after :
    (k : ℕ) (t : Table) → t.policy ≡ 1 → (s : State) {low mask : ℕ} → LowBits k low mask → after (cut_table k t) (cut_state k s) low ≡ cut_state k (after t s mask)
unfolding after
cut_after k t fixed s {low} {mask} bits =
    ap (λ r. ran r (chosen (cut_table k t) r)) (cut_released k t s bits) ∙ cut_ran k t fixed (released t s mask)
