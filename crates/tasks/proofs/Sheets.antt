-- The bytes of a sheet's tasks, one at a time, and the three ways in which a writing ends. Assumes nothing.
use Prim.Native.Nat.{ℕ, zero, suc, ◌+◌, ◌-◌, ◌*◌, ◌≤◌, ◌<◌}
use mathlib.Core.Path.{◌≡◌, sym, ap, ◌∙◌}
use mathlib.Core.List.{List, [], ◌++◌}
use native.Mathlib.Omega.{arith}
use lib.ListN.{length, get_or, drop, length-append}
use lib.Seq.{sets, sets-eq}
use borrow.Author.Tests.{lt-ltb, le-ltb}
use Rattle.std.specs.Prelude.{Ok, Err}
use Rattle.tasks.specs.declared.refusal.Refusal.{Refusal}
use Rattle.tasks.specs.Table.{table_fault}
use Rattle.tasks.specs.Number.{number_bytes}
use Rattle.tasks.specs.Answers.{writing_answer}
use Rattle.tasks.specs.Sheet.{task_bytes, tasks_bytes, sheet_bytes, write_refusal, write_answer, write_out}
use Rattle.tasks.specs.declared.table.Table.{Table}
use Rattle.tasks.proofs.Groups.{bytes_low, few_bytes}
use Rattle.tasks.specs.Refusals.{refusal_number}
use Rattle.tasks.specs.declared.refusal.Refusal.TheVariants.{ShortOutput}
use Rattle.tasks.proofs.Refusals.{refusal_some}
use Rattle.tasks.proofs.Tables.{Valid, valid}

module _ (t : Table) (n i : ℕ) where
  -- the tasks that are left: the next one and those after it, or none
  pub tasks_bytes_lem : i < n → tasks_bytes t (n - i) i ≡ task_bytes t i ++ tasks_bytes t (n - (i + 1)) (i + 1)
  unfolding tasks_bytes
  tasks_bytes_lem h = let e : n - i ≡ suc (n - (i + 1)) = omega arith in ap (λ k. tasks_bytes t k i) e

  pub tasks_none : n ≤ i → tasks_bytes t (n - i) i ≡ []
  unfolding tasks_bytes
  tasks_none h = let e : n - i ≡ 0 = omega arith in ap (λ k. tasks_bytes t k i) e

  pub tasks_length : i < n → length (tasks_bytes t (n - i) i) ≡ length (task_bytes t i) + length (tasks_bytes t (n - (i + 1)) (i + 1))
  tasks_length h = ap length (tasks_bytes_lem h) ∙ length-append (task_bytes t i) (tasks_bytes t (n - (i + 1)) (i + 1))

  pub tasks_no_length : n ≤ i → length (tasks_bytes t (n - i) i) ≡ 0
  tasks_no_length h = ap length (tasks_none h)

module _ (t : Table) (out : List ℕ) where
  refusal_fault : 0 < table_fault t → write_refusal t out ≡ table_fault t
  unfolding write_refusal
  refusal_fault h = rw (lt-ltb 0 (table_fault t) h)

  refusal_short : table_fault t ≡ 0 → length out < length (sheet_bytes t) → write_refusal t out ≡ 12
  unfolding write_refusal
  refusal_short e h = rw (e, lt-ltb (length out) (length (sheet_bytes t)) h)

  refusal_none : table_fault t ≡ 0 → length (sheet_bytes t) ≤ length out → write_refusal t out ≡ 0
  unfolding write_refusal
  refusal_none e h = rw (e, le-ltb (length out) (length (sheet_bytes t)) h)

  refused : (r : Refusal) → write_refusal t out ≡ refusal_number r → (writing_answer (Err r) ≡ write_answer t out) × (out ≡ write_out t out)
  unfolding writing_answer write_answer write_out
  refused r e =
      let h = lt-ltb 0 (refusal_number r) (refusal_some r) in
      (rw (e, h), rw (e, h))

  -- a table that is not valid
  pub write_fault : (r : Refusal) → table_fault t ≡ refusal_number r → (writing_answer (Err r) ≡ write_answer t out) × (out ≡ write_out t out)
  write_fault r e = refused r (refusal_fault (omega (arith, e, refusal_some r)) ∙ e)

  -- an output that is too short
  pub write_short : table_fault t ≡ 0 → length out < length (sheet_bytes t) → (writing_answer (Err ShortOutput) ≡ write_answer t out) × (out ≡ write_out t out)
  write_short e h = refused ShortOutput (refusal_short e h)

  -- the sheet stands at the front of the output
  pub write_out_lem :
      table_fault t ≡ 0 → length (sheet_bytes t) ≤ length out → write_out t out ≡ sheet_bytes t ++ drop (length (sheet_bytes t)) out
  unfolding write_out
  write_out_lem e h = rw (refusal_none e h)

  pub write_done :
      table_fault t ≡ 0 → length (sheet_bytes t) ≤ length out → (writing_answer (Ok (length (sheet_bytes t))) ≡ write_answer t out) × (sets out 0 (sheet_bytes t) ≡ write_out t out)
  unfolding writing_answer write_answer
  write_done e h =
      let z : 0 + length (sheet_bytes t) ≡ length (sheet_bytes t) = omega arith in
      (rw (refusal_none e h), sets-eq (sheet_bytes t) out 0 (omega arith) ∙ ap (λ n. sheet_bytes t ++ drop n out) z ∙ sym (write_out_lem e h))

-- ---- the length of a sheet

-- a number below 128 takes one byte
one_byte : (x : ℕ) → x < 128 → length (number_bytes x) ≡ 1
one_byte x h = ap length (bytes_low x h)

tasks_short : (t : Table) → Valid t → (k i : ℕ) → i + k ≤ t.n → length (tasks_bytes t k i) ≤ 6 * k
unfolding tasks_bytes task_bytes
tasks_short t v zero i h = omega arith
tasks_short t v (suc k) i h =
    let f = v.each i (omega arith) in
    let C = number_bytes (get_or t.work i 0) in
    let D = number_bytes (get_or t.deadline i 0) in
    let P = number_bytes (get_or t.gap i 0) in
    omega
    (arith, length-append (C ++ (D ++ P)) (tasks_bytes t k (i + 1)), length-append C (D ++ P), length-append D P, few_bytes (get_or t.work i 0) 1 (omega (arith, f.order, f.close, f.short)), few_bytes (get_or t.deadline i 0) 1 (omega (arith, f.close, f.short)), few_bytes (get_or t.gap i 0) 1 (omega (arith, f.short)), tasks_short t v k (i + 1) (omega arith))

-- the longest sheet has 52 bytes
pub sheet_short : (t : Table) → table_fault t ≡ 0 → length (sheet_bytes t) ≤ 52
unfolding sheet_bytes
sheet_short t e =
    let v = valid t e in
    let W = tasks_bytes t t.n 0 in
    let Z = number_bytes t.n ++ W in
    let Y = number_bytes t.m ++ Z in
    let X = number_bytes t.policy ++ Y in
    omega
    (arith, length-append (number_bytes 3) X, length-append (number_bytes t.policy) Y, length-append (number_bytes t.m) Z, length-append (number_bytes t.n) W, one_byte 3 (omega arith), one_byte t.policy (omega (arith, v.policy)), one_byte t.m (omega (arith, v.processors.1)), one_byte t.n (omega (arith, v.tasks.1)), tasks_short t v t.n 0 (omega arith), v.tasks.1)
