-- More releases never keep a tick from missing. Assumes nothing.
use Prim.Native.Nat.{ℕ, ◌<◌}
use mathlib.Core.Path.{◌≡◌, sym, ◌∙◌}
use mathlib.Core.Bool.{true, false, ◌&&◌, ◌||◌}
use mathlib.Core.Logic.{◌⊎◌, inl, inr, ⊎_elim}
use native.Mathlib.Omega.{arith}
use lib.Dec.{eqb, ltb}
use lib.ListN.{get_or}
use borrow.Author.Tests.{ltb-true, ltb-false, lt-ltb, le-ltb, eqb-true, eq-eqb}
use Rattle.lists.specs.Lists.{count}
use Rattle.tasks.specs.Table.{table_fault}
use Rattle.tasks.specs.State.{ready, started, keeps, late, improper}
use Rattle.tasks.specs.Tick.{bit, illegal, released, key, age, before, ahead, runs, after, missed}
use Rattle.tasks.specs.declared.state.State.{State}
use Rattle.tasks.specs.declared.table.Table.{Table}
use Rattle.lists.proofs.Bools.{by_bool, clash, and_left, and_right, both, or_left, or_right, or_cases}
use Rattle.lists.proofs.Counts.{count_mono, some_any, any_some}
use Rattle.tasks.proofs.Tables.{ordered}
use Rattle.tasks.proofs.Legal.{legal_bit, bits_legal}
use Rattle.tasks.proofs.After.{work_on, work_off, gap_on, gap_off, work_waited, gap_after}
use Rattle.tasks.proofs.Proper.{proper_task}
use Rattle.tasks.proofs.Late.{is_late, not_late, late_waited}

-- ---- two states that agree on a task

pub record Same (a b : State) (i : ℕ) : Type 0 where
  pub c : get_or a.c i 0 ≡ get_or b.c i 0
  pub p : get_or a.p i 0 ≡ get_or b.p i 0

module _ (t : Table) (a b : State) where
  same_keeps : (i : ℕ) → Same a b i → keeps t a i ≡ keeps t b i
  unfolding keeps started
  same_keeps i e = rw e.c

  same_key : (i : ℕ) → Same a b i → key t a i ≡ key t b i
  unfolding key
  same_key i e = rw (e.c, e.p)

  same_age : (i : ℕ) → Same a b i → age t a i ≡ age t b i
  unfolding age
  same_age i e = rw e.p

  same_before : (j i : ℕ) → Same a b j → Same a b i → before t a j i ≡ before t b j i
  unfolding before
  same_before j i e h = rw (same_key j e, same_key i h, same_age j e, same_age i h)

  -- b has every job of a, and perhaps more: then what is ahead in a is so in b
  module _ (more : (k : ℕ) → k < 8 → (ready a k ≡ false) ⊎ Same a b k) (i : ℕ) (h : i < 8) (same : Same a b i) where
    ahead_too : (j : ℕ) → j < 8 → ahead t a i j ≡ true → ahead t b i j ≡ true
    unfolding ahead
    ahead_too j l e =
        let r = and_left (ready a j) (keeps t a j || before t a j i) e in
        ⊎_elim (λ none. clash r none)
        (λ at. rw (sym (same_keeps j at), sym (same_before j i at same), sym at.c) e)
        (more j l)

    -- and a job that waits in a waits in b
    waits_too : runs t a i ≡ false → runs t b i ≡ false
    unfolding runs
    waits_too e =
        by_bool (runs t b i)
        (λ r.
        let k = ltb (count 8 (ahead t b i)) t.m in
        let ready-a : ready a i ≡ true = rw same.c (and_left (ready b i) (keeps t b i || k) r) in
        clash
        (both ready-a
        (or_cases (keeps t b i) k (and_right (ready b i) (keeps t b i || k) r)
        (λ y. or_left (ltb (count 8 (ahead t a i)) t.m) (same_keeps i same ∙ y))
        (λ y few. or_right (keeps t a i)
        (lt-ltb (count 8 (ahead t a i)) t.m
        (omega (arith, ltb-true (count 8 (ahead t b i)) t.m few, count_mono (ahead t a i) (ahead t b i) 8 ahead_too))))))
        e)
        (λ r. r)

-- ---- two legal masks, the second with every release of the first

-- the mask has a bit for every task that may be released, and no other
abbrev pub Full : Table → State → ℕ → Type 0
Full t s mask = (i : ℕ) → i < 8 → bit mask i ≡ (ltb i t.n && eqb (get_or s.p i 0) 0)

module _ (t : Table) (s : State) where
  -- LAW: that mask is legal
  pub full_legal : (mask : ℕ) → Full t s mask → illegal t s mask ≡ false
  full_legal mask full =
      bits_legal t s mask
      (λ i h e.
      let on = sym (full i h) ∙ e in
      (ltb-true i t.n (and_left (ltb i t.n) (eqb (get_or s.p i 0) 0) on), eqb-true (get_or s.p i 0) 0 (and_right (ltb i t.n) (eqb (get_or s.p i 0) 0) on)))

module _ (t : Table) (s : State) (valid : table_fault t ≡ 0) (proper : improper t s ≡ false) where
  -- LAW: a task of a proper state that may be released has no job
  pub idle : (i : ℕ) → i < 8 → get_or s.p i 0 ≡ 0 → get_or s.c i 0 ≡ 0
  idle i h e =
      by_bool (ltb 0 (get_or s.c i 0))
      (λ r.
      let job = ltb-true 0 (get_or s.c i 0) r in
      absurd (omega (arith, not_late t s i (proper_task t s proper i h).kept job, (ordered t valid i h).deadline)))
      (λ r. omega (arith, ltb-false 0 (get_or s.c i 0) r))

  module _ (few more : ℕ) (legal : illegal t s more ≡ false) (within : (i : ℕ) → i < 8 → bit few i ≡ true → bit more i ≡ true) where
    -- after the release a task has the same numbers, or no job with the fewer releases
    more_jobs : (i : ℕ) → i < 8 → (ready (released t s few) i ≡ false) ⊎ Same (released t s few) (released t s more) i
    more_jobs i h =
        by_bool (bit few i)
        (λ e.
        let g = within i h e in
        inr
        (record {
          c = work_on t s few i h e ∙ sym (work_on t s more i h g);
          p = gap_on t s few i h e ∙ sym (gap_on t s more i h g);
        }))
        (λ e.
        by_bool (bit more i)
        (λ g.
        inl
        (le-ltb 0 (get_or (released t s few).c i 0)
        (omega (arith, work_off t s few i h e, idle i h (legal_bit t s more i h legal g).1))))
        (λ g.
        inr
        (record {
          c = work_off t s few i h e ∙ sym (work_off t s more i h g);
          p = gap_off t s few i h e ∙ sym (gap_off t s more i h g);
        })))

    late_too : (i : ℕ) → i < 8 → late t (after t s few) i ≡ true → late t (after t s more) i ≡ true
    late_too i h e =
        let w = late_waited t s few valid proper i h e in
        ⊎_elim
        (λ none. absurd (omega (arith, w.1, ltb-false 0 (get_or (released t s few).c i 0) none)))
        (λ same.
        let waits = waits_too t (released t s few) (released t s more) more_jobs i h same w.0 in
        let c = work_waited t s more i h waits in
        let p = gap_after t s more i h in
        is_late t (after t s more) i (omega (arith, w.1, same.c)) (omega (arith, w.1, w.2, w.3, same.c, same.p)))
        (more_jobs i h)

    -- LAW: where a tick misses, so does one with more releases
    pub more_miss : missed t (after t s few) ≡ true → missed t (after t s more) ≡ true
    unfolding missed
    more_miss e =
        let x = any_some (late t (after t s few)) 8 e in
        some_any (late t (after t s more)) 8 x.0 x.1 (late_too x.0 x.1 x.2)

  -- LAW: where some legal mask misses from a proper state, the mask of all tasks that may be released does
  pub full_miss : (full mask : ℕ) → Full t s full → illegal t s mask ≡ false → missed t (after t s mask) ≡ true → missed t (after t s full) ≡ true
  full_miss full mask all legal e =
      more_miss mask full (full_legal t s full all)
      (λ i h on.
      let r = legal_bit t s mask i h legal on in
      all i h ∙ both (lt-ltb i t.n r.0) (eq-eqb (get_or s.p i 0) 0 r.1))
      e
