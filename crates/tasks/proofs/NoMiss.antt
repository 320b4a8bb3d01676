-- Where no job is tight, no legal mask misses. Assumes nothing.
use Prim.Native.Nat.{ℕ, ◌+◌, ◌/◌, ◌%◌, ◌≤◌, ◌<◌}
use mathlib.Core.Path.{◌≡◌, sym, ap₂, ◌∙◌}
use mathlib.Core.Bool.{true, false, ◌&&◌, ◌||◌}
use mathlib.Core.List.{List}
use native.Mathlib.Omega.{arith}
use lib.Dec.{eqb}
use lib.ListN.{get_or}
use lib.Signed.{lt_z}
use borrow.Author.Tests.{lt-ltb, eq-eqb}
use Rattle.tasks.specs.Table.{table_fault}
use Rattle.tasks.specs.State.{late, improper}
use Rattle.tasks.specs.Tick.{bit, illegal, after, missed}
use Rattle.tasks.specs.Tight.{tight_job, tight_at, tight}
use Rattle.tasks.specs.Words.{state_of}
use Rattle.tasks.specs.declared.state.State.{State}
use Rattle.tasks.specs.declared.table.Table.{Table}
use Rattle.lists.proofs.Bools.{by_bool, both, or_left, or_right}
use Rattle.lists.proofs.Counts.{some_any, any_some}
use Rattle.jobs.proofs.Signed.{slack_sub, lt_z_sub, sub_ge}
use Rattle.tasks.proofs.Legal.{legal_bit}
use Rattle.tasks.proofs.After.{work_on, work_off, gap_on, gap_off}
use Rattle.tasks.proofs.Late.{late_waited}
use Rattle.tasks.proofs.InWords.{work_word, gap_word}

-- a job is tight where D + p is at most P + c
tight_job_lem : (d g p c : ℕ) → 0 < c → d + p ≤ g + c → tight_job d g p c ≡ true
unfolding tight_job
tight_job_lem d g p c h k =
    both (lt-ltb 0 c h)
    (ap₂ lt_z (slack_sub d g p c) (sym (sub_ge 1 0 (omega arith)))
    ∙ lt_z_sub (d + p) (g + c) 1 0
    ∙ lt-ltb (d + p + 0) (1 + (g + c)) (omega arith))

-- the same of a task in words
pub tight_word :
    (t : Table) (v : List ℕ) (i : ℕ) → i < 8
    → (tight_job (get_or t.deadline i 0) (get_or t.gap i 0) (get_or v i 0 / 256) (get_or v i 0 % 256)
    || (eqb (get_or v i 0 / 256) 0 && tight_job (get_or t.deadline i 0) (get_or t.gap i 0) (get_or t.gap i 0) (get_or t.work i 0)))
    ≡ tight_at t (state_of v) i
unfolding tight_at
tight_word t v i h = rw (work_word v i h, gap_word v i h)

module _ (t : Table) (s : State) (valid : table_fault t ≡ 0) (proper : improper t s ≡ false) (mask : ℕ) (legal : illegal t s mask ≡ false) where
  -- a job that is late after the tick was tight before it
  late_tight : (i : ℕ) → i < 8 → late t (after t s mask) i ≡ true → tight_at t s i ≡ true
  unfolding tight_at
  late_tight i h e =
      let w = late_waited t s mask valid proper i h e in
      let D = get_or t.deadline i 0 in
      let P = get_or t.gap i 0 in
      let C = get_or t.work i 0 in
      let c = get_or s.c i 0 in
      let p = get_or s.p i 0 in
      by_bool (bit mask i)
      (λ on.
      let a = work_on t s mask i h on in
      let b = gap_on t s mask i h on in
      or_right (tight_job D P p c)
      (both (eq-eqb p 0 (legal_bit t s mask i h legal on).1) (tight_job_lem D P P C (omega (arith, w.1)) (omega (arith, w.2)))))
      (λ off.
      let a = work_off t s mask i h off in
      let b = gap_off t s mask i h off in
      or_left (eqb p 0 && tight_job D P P C) (tight_job_lem D P p c (omega (arith, w.1)) (omega (arith, w.2))))

  -- LAW: where a legal mask misses from a proper state, some job is tight
  pub miss_tight : missed t (after t s mask) ≡ true → tight t s ≡ true
  unfolding missed tight
  miss_tight e =
      let x = any_some (late t (after t s mask)) 8 e in
      some_any (tight_at t s) 8 x.0 x.1 (late_tight x.0 x.1 x.2)
