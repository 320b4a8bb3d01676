-- States in which the tasks after the kth have no job: there a tick of the cut table is a tick of the whole, under every policy. Assumes
-- nothing.
use Prim.Native.Nat.{ℕ, ◌≤◌, ◌<◌}
use mathlib.Core.Path.{◌≡◌, refl, sym, ap, ap₂, ◌∙◌}
use mathlib.Core.Bool.{true, false, ◌&&◌, ◌||◌}
use mathlib.Core.List.{List}
use native.Mathlib.Omega.{arith}
use lib.Dec.{ltb}
use lib.ListN.{get_or}
use borrow.Author.Tests.{ltb-true, ltb-false}
use Rattle.lists.specs.Lists.{eight}
use Rattle.lists.proofs.Bools.{by_bool, clash, and_right}
use Rattle.lists.proofs.Counts.{count_mono, count_same, any_same}
use Rattle.lists.proofs.Fill.{eight_same}
use Rattle.tasks.specs.State.{not_preempted, started, keeps, late, improper}
use Rattle.tasks.specs.Tick.{bit, illegal, released_at, released, key, age, before, ahead, runs, chosen, ran, after, missed}
use Rattle.tasks.specs.declared.state.State.{State}
use Rattle.tasks.specs.declared.table.Table.{Table}
use Rattle.tasks.proofs.Legal.{legal_bit, bits_legal}
use Rattle.tasks.proofs.After.{work_off, work_falls}
use Rattle.tasks.proofs.Proper.{Fine, proper_task, proper_kept, is_proper}
use Rattle.cut.specs.Cut.{cut_table}
use Rattle.cut.proofs.CutLaws.{SameTask, task_in, LowBits}
use Rattle.cut.proofs.TickLaws.{same_late, same_keeps, same_runs, none_late, none_started, none_runs, cut_n, cut_m, cut_policy}

-- ---- two tasks with the same numbers in two tables and two states

module _ (t u : Table) (s v : State) (policy : t.policy ≡ u.policy) where
  same_key : (i : ℕ) → SameTask t u s v i → key t s i ≡ key u v i
  unfolding key
  same_key i e = rw (policy, e.deadline, e.gap, e.p, e.c)

  same_age : (i : ℕ) → SameTask t u s v i → age t s i ≡ age u v i
  unfolding age
  same_age i e = rw (policy, e.gap, e.p)

  same_before : (j i : ℕ) → SameTask t u s v j → SameTask t u s v i → before t s j i ≡ before u v j i
  unfolding before
  same_before j i e h = rw (same_key j e, same_key i h, same_age j e, same_age i h)

  same_ahead : (i j : ℕ) → SameTask t u s v j → SameTask t u s v i → ahead t s i j ≡ ahead u v i j
  unfolding ahead
  same_ahead i j e h =
      ap₂ (λ c x. ltb 0 c && x) e.c (ap₂ (λ a b. a || b) (same_keeps t u s v j e policy) (same_before j i e h))

none_ahead : (t : Table) (s : State) (i j : ℕ) → get_or s.c j 0 ≡ 0 → ahead t s i j ≡ false
unfolding ahead
none_ahead t s i j e = rw e

module _ (k : ℕ) (t : Table) where
  same_at : (s : State) (i : ℕ) → i < 8 → i < k → SameTask (cut_table k t) t s s i
  same_at s i h b = let e = task_in k t s i h b in record { work = e.work; deadline = e.deadline; gap = e.gap; c = refl; p = refl }

  -- ---- a state in which the tasks after the kth have no job

  module _ (s : State) (idle : (i : ℕ) → i < 8 → k ≤ i → get_or s.c i 0 ≡ 0) where
    idle_late : (i : ℕ) → i < 8 → late (cut_table k t) s i ≡ late t s i
    idle_late i h =
        by_bool (ltb i k)
        (λ e. same_late (cut_table k t) t s s i (same_at s i h (ltb-true i k e)))
        (λ e. let z = idle i h (ltb-false i k e) in none_late (cut_table k t) s i z ∙ sym (none_late t s i z))

    idle_missed : missed (cut_table k t) s ≡ missed t s
    unfolding missed
    idle_missed = any_same (late (cut_table k t) s) (late t s) 8 idle_late

    idle_ahead : (i j : ℕ) → i < 8 → i < k → j < 8 → ahead (cut_table k t) s i j ≡ ahead t s i j
    idle_ahead i j h b l =
        by_bool (ltb j k)
        (λ e. same_ahead (cut_table k t) t s s (cut_policy k t) i j (same_at s j l (ltb-true j k e)) (same_at s i h b))
        (λ e. let z = idle j l (ltb-false j k e) in none_ahead (cut_table k t) s i j z ∙ sym (none_ahead t s i j z))

    idle_runs : (i : ℕ) → i < 8 → runs (cut_table k t) s i ≡ runs t s i
    idle_runs i h =
        by_bool (ltb i k)
        (λ e.
        let b = ltb-true i k e in
        let same = same_at s i h b in
        same_runs (cut_table k t) t s s i same (same_keeps (cut_table k t) t s s i same (cut_policy k t))
        (count_same (ahead (cut_table k t) s i) (ahead t s i) 8 (λ j l. idle_ahead i j h b l)) (cut_m k t))
        (λ e. let z = idle i h (ltb-false i k e) in none_runs (cut_table k t) s i z ∙ sym (none_runs t s i z))

    idle_chosen : chosen (cut_table k t) s ≡ chosen t s
    unfolding chosen
    idle_chosen = eight_same (runs (cut_table k t) s) (runs t s) idle_runs

    -- ---- a tick that releases none of them

    module _ (mask : ℕ) (low : LowBits k mask mask) where
      first_released :
          (full less old : List ℕ) → ((i : ℕ) → i < 8 → i < k → get_or less i 0 ≡ get_or full i 0) → eight (released_at less old mask) ≡ eight (released_at full old mask)
      unfolding released_at
      first_released full less old same =
          eight_same (released_at less old mask) (released_at full old mask)
          (λ i h. by_bool (ltb i k) (λ e. rw (same i h (ltb-true i k e))) (λ e. rw (low.above i h (ltb-false i k e))))

      idle_released : released (cut_table k t) s mask ≡ released t s mask
      unfolding released
      idle_released =
          λ x.
          record {
            c = first_released t.work (cut_table k t).work s.c (λ i h b. (same_at s i h b).work) x;
            p = first_released t.gap (cut_table k t).gap s.p (λ i h b. (same_at s i h b).gap) x;
          }

      still_idle : (i : ℕ) → i < 8 → k ≤ i → get_or (released t s mask).c i 0 ≡ 0
      still_idle i h b = work_off t s mask i h (low.above i h b) ∙ idle i h b

  -- LAW: .. leaves in the cut what it leaves in the whole, and misses where it misses there
  pub idle_after :
      (s : State) → ((i : ℕ) → i < 8 → k ≤ i → get_or s.c i 0 ≡ 0) → (mask : ℕ) → LowBits k mask mask → after (cut_table k t) s mask ≡ after t s mask
  unfolding after
  idle_after s idle mask low =
      ap (λ r. ran r (chosen (cut_table k t) r)) (idle_released s idle mask low)
      ∙ ap (ran (released t s mask)) (idle_chosen (released t s mask) (still_idle s idle mask low))

  pub idle_misses :
      (s : State) → ((i : ℕ) → i < 8 → k ≤ i → get_or s.c i 0 ≡ 0) → (mask : ℕ) → LowBits k mask mask
      → missed (cut_table k t) (after t s mask) ≡ missed t (after t s mask)
  idle_misses s idle mask low =
      idle_missed (after t s mask) (λ i h b. omega (arith, work_falls t s mask i h, still_idle s idle mask low i h b))

  -- ---- a proper state of the cut is such a state, and proper in the whole

  module _ (s : State) (proper : improper (cut_table k t) s ≡ false) where
    past : (i : ℕ) → i < 8 → k ≤ i → (get_or s.c i 0 ≡ 0) × (get_or s.p i 0 ≡ 0)
    past i h b = (proper_task (cut_table k t) s proper i h).past (rw (cut_n k t) b)

    pub proper_idle : (i : ℕ) → i < 8 → k ≤ i → get_or s.c i 0 ≡ 0
    proper_idle i h b = (past i h b).0

    keeps_too : (i : ℕ) → i < 8 → keeps t s i ≡ true → keeps (cut_table k t) s i ≡ true
    unfolding keeps
    keeps_too i h e =
        by_bool (ltb i k)
        (λ b. same_keeps (cut_table k t) t s s i (same_at s i h (ltb-true i k b)) (cut_policy k t) ∙ e)
        (λ b. clash (and_right (not_preempted t) (started t s i) e) (none_started t s i (proper_idle i h (ltb-false i k b))))

    whole_fine : k ≤ t.n → (i : ℕ) → i < 8 → Fine t s i
    whole_fine most i h =
        let f = proper_task (cut_table k t) s proper i h in
        by_bool (ltb i k)
        (λ e.
        let b = ltb-true i k e in
        let same = same_at s i h b in
        record {
          work = rw same.work at f.work;
          gap = rw same.gap at f.gap;
          kept = sym (same_late (cut_table k t) t s s i same) ∙ f.kept;
          past = λ q. absurd (omega arith);
        })
        (λ e.
        let z = past i h (ltb-false i k e) in
        record {
          work = rw z.0 (omega arith);
          gap = rw z.1 (omega arith);
          kept = none_late t s i z.0;
          past = λ q. z;
        })

    -- LAW: it is proper in the whole
    pub whole_proper : k ≤ t.n → improper t s ≡ false
    whole_proper most =
        is_proper t s (whole_fine most)
        (omega (arith, cut_m k t, proper_kept (cut_table k t) s proper, count_mono (keeps t s) (keeps (cut_table k t) s) 8 keeps_too))

  -- ---- a mask that is legal in the cut

  module _ (s : State) (mask : ℕ) (legal : illegal (cut_table k t) s mask ≡ false) where
    low_bit : (i : ℕ) → i < 8 → bit mask i ≡ true → (i < k) × (get_or s.p i 0 ≡ 0)
    low_bit i h e = rw (cut_n k t) at (legal_bit (cut_table k t) s mask i h legal e)

    -- LAW: it has low bits alone, and is legal in the whole
    pub low_alone : LowBits k mask mask
    low_alone =
        record {
          below = λ i h b. refl;
          above = λ i h b. by_bool (bit mask i) (λ e. absurd (omega (arith, (low_bit i h e).0))) (λ e. e);
        }

    pub whole_legal : k ≤ t.n → illegal t s mask ≡ false
    whole_legal most = bits_legal t s mask (λ i h e. let l = low_bit i h e in (omega (arith, l.0), l.1))
