-- When a job is late after a tick. Assumes nothing.
use Prim.Native.Nat.{ℕ, ◌+◌, ◌≤◌, ◌<◌}
use mathlib.Core.Path.{◌≡◌, sym, ap, ◌∙◌}
use mathlib.Core.Bool.{true, false, ◌&&◌}
use native.Mathlib.Omega.{arith}
use lib.Dec.{ltb}
use lib.ListN.{get_or}
use lib.IntN.{ℤ, pos, negsuc, ◌-ℤ◌}
use borrow.Author.Tests.{ltb-true, ltb-false, lt-ltb}
use Rattle.jobs.specs.Job.{slack}
use Rattle.tasks.specs.Table.{table_fault}
use Rattle.tasks.specs.State.{ready, late, improper}
use Rattle.tasks.specs.Tick.{bit, released, runs, after}
use Rattle.tasks.specs.declared.state.State.{State}
use Rattle.tasks.specs.declared.table.Table.{Table}
use Rattle.lists.proofs.Bools.{by_bool, clash, and_left, and_right, both}
use Rattle.jobs.proofs.Signed.{sub_lt, slack_sub, slack_same, slack_less, slack_late}
use Rattle.tasks.proofs.Tables.{ordered}
use Rattle.tasks.proofs.Choice.{runs_work}
use Rattle.tasks.proofs.After.{work_on, work_off, gap_on, gap_off, work_ran, work_waited, gap_after}
use Rattle.tasks.proofs.Proper.{proper_task}

-- the slack of task i's job
abbrev pub slack_at : Table → State → ℕ → ℤ
slack_at t s i = slack (get_or t.deadline i 0) (get_or t.gap i 0) (get_or s.p i 0) (get_or s.c i 0)

-- ---- the slack in natural numbers

module _ (t : Table) (s : State) (i : ℕ) where
  -- a job is late where D + p is below P + c
  late_less : late t s i ≡ ready s i && ltb (get_or t.deadline i 0 + get_or s.p i 0) (get_or t.gap i 0 + get_or s.c i 0)
  unfolding late
  late_less = rw (slack_late (get_or t.deadline i 0) (get_or t.gap i 0) (get_or s.p i 0) (get_or s.c i 0))

  pub late_yes : late t s i ≡ true → (0 < get_or s.c i 0) × (get_or t.deadline i 0 + get_or s.p i 0 < get_or t.gap i 0 + get_or s.c i 0)
  late_yes e =
      let d = get_or t.deadline i 0 + get_or s.p i 0 in
      let g = get_or t.gap i 0 + get_or s.c i 0 in
      let h : ready s i && ltb d g ≡ true = sym late_less ∙ e in
      (ltb-true 0 (get_or s.c i 0) (and_left (ready s i) (ltb d g) h), ltb-true d g (and_right (ready s i) (ltb d g) h))

  pub is_late : 0 < get_or s.c i 0 → get_or t.deadline i 0 + get_or s.p i 0 < get_or t.gap i 0 + get_or s.c i 0 → late t s i ≡ true
  is_late h k =
      late_less
      ∙ both (lt-ltb 0 (get_or s.c i 0) h) (lt-ltb (get_or t.deadline i 0 + get_or s.p i 0) (get_or t.gap i 0 + get_or s.c i 0) k)

  pub not_late : late t s i ≡ false → 0 < get_or s.c i 0 → get_or t.gap i 0 + get_or s.c i 0 ≤ get_or t.deadline i 0 + get_or s.p i 0
  not_late e h =
      let d = get_or t.deadline i 0 + get_or s.p i 0 in
      let g = get_or t.gap i 0 + get_or s.c i 0 in
      ltb-false d g (by_bool (ltb d g) (λ l. clash (is_late h (ltb-true d g l)) e) (λ l. l))

-- ---- the slack in a tick, from any state

module _ (t : Table) (s : State) (mask : ℕ) (i : ℕ) (h : i < 8) where
  -- LAW: the slack of a job that runs stays
  pub slack_ran :
      runs t (released t s mask) i ≡ true → 0 < get_or (released t s mask).p i 0 → slack_at t (after t s mask) i ≡ slack_at t (released t s mask) i
  slack_ran r gap =
      slack_same (get_or t.deadline i 0) (get_or t.gap i 0) (get_or (after t s mask).p i 0) (get_or (after t s mask).c i 0) (get_or (released t s mask).p i 0) (get_or (released t s mask).c i 0)
      (omega (arith, work_ran t s mask i h r, gap_after t s mask i h, runs_work t (released t s mask) i r))

  -- LAW: the slack of a job that waits falls by 1
  pub slack_waited :
      runs t (released t s mask) i ≡ false → 0 < get_or (released t s mask).p i 0 → slack_at t (after t s mask) i ≡ slack_at t (released t s mask) i -ℤ pos 1
  slack_waited r gap =
      let c = get_or (released t s mask).c i 0 in
      let p = get_or (released t s mask).p i 0 in
      slack_same (get_or t.deadline i 0) (get_or t.gap i 0) (get_or (after t s mask).p i 0) (get_or (after t s mask).c i 0) p (c + 1)
      (omega (arith, work_waited t s mask i h r, gap_after t s mask i h))
      ∙ slack_less (get_or t.deadline i 0) (get_or t.gap i 0) p c

-- ---- a tick from a proper state

module _ (t : Table) (s : State) (mask : ℕ) (valid : table_fault t ≡ 0) (proper : improper t s ≡ false) (i : ℕ) (h : i < 8) where
  -- a job that is ready after the release has slack 0 or more then
  pub released_slack :
      0 < get_or (released t s mask).c i 0 → get_or t.gap i 0 + get_or (released t s mask).c i 0 ≤ get_or t.deadline i 0 + get_or (released t s mask).p i 0
  released_slack r =
      let o = ordered t valid i h in
      by_bool (bit mask i)
      (λ e. omega (arith, work_on t s mask i h e, gap_on t s mask i h e, o.work))
      (λ e.
      let c = work_off t s mask i h e in
      let p = gap_off t s mask i h e in
      omega (arith, not_late t s i (proper_task t s proper i h).kept (omega arith)))

  -- a job that is late after the tick did not run, and had slack 0
  pub late_waited :
      late t (after t s mask) i ≡ true
      → (runs t (released t s mask) i ≡ false) × (0 < get_or (released t s mask).c i 0)
      × (get_or t.gap i 0 + get_or (released t s mask).c i 0 ≡ get_or t.deadline i 0 + get_or (released t s mask).p i 0)
      × (0 < get_or (released t s mask).p i 0)
  late_waited e =
      let o = ordered t valid i h in
      let l = late_yes t (after t s mask) i e in
      let p = gap_after t s mask i h in
      by_bool (runs t (released t s mask) i)
      (λ r. let c = work_ran t s mask i h r in absurd (omega (arith, released_slack (omega arith), o.deadline)))
      (λ r.
      let c = work_waited t s mask i h r in
      let k = released_slack (omega arith) in
      (r, omega arith, omega (arith, o.deadline), omega (arith, o.deadline)))

  -- LAW: a miss shows first as slack exactly -1
  pub first_late : late t (after t s mask) i ≡ true → slack_at t (after t s mask) i ≡ negsuc 0
  first_late e =
      let w = late_waited e in
      let D = get_or t.deadline i 0 in
      let P = get_or t.gap i 0 in
      let c = get_or (after t s mask).c i 0 in
      let p = get_or (after t s mask).p i 0 in
      let same = work_waited t s mask i h w.0 in
      let fell = gap_after t s mask i h in
      slack_sub D P p c ∙ sub_lt (D + p) (P + c) (omega arith) ∙ ap negsuc (omega arith)
