-- The cut of a valid table is valid, and what the call answers. Assumes nothing.
use Prim.Native.Nat.{ℕ, ◌≤◌, ◌<◌}
use mathlib.Core.Path.{◌≡◌, refl, sym}
use mathlib.Core.Bool.{true, false, ◌||◌}
use native.Mathlib.Omega.{arith}
use lib.Dec.{ltb}
use lib.ListN.{length, get_or}
use borrow.Author.Tests.{lt-ltb, le-ltb, ltb-true, ltb-false}
use Rattle.lists.specs.Lists.{pick}
use Rattle.lists.proofs.Bools.{by_bool, nor_left, nor_right}
use Rattle.std.specs.Prelude.{Ok, Err}
use Rattle.tasks.specs.Table.{table_fault}
use Rattle.tasks.specs.State.{start}
use Rattle.tasks.specs.Sheet.{sheet_of, sheet_bytes}
use Rattle.tasks.specs.declared.table.Table.{Table}
use Rattle.tasks.specs.Refusals.{refusal_number, refusal_at, unless_refused}
use Rattle.tasks.specs.declared.refusal.Refusal.{Refusal}
use Rattle.tasks.specs.declared.refusal.Refusal.TheVariants.{TaskCount}
use Rattle.tasks.proofs.Refusals.{pick_case, Named, refused_at, unless_none, refused_unless, accepted_unless, refused_number, refused_same}
use Rattle.tasks.proofs.Tables.{FitTask, Valid, valid, not_refused, pick_zero, fault_number}
use Rattle.tasks.proofs.Sheets.{sheet_short}
use Rattle.tasks.proofs.RoundTrip.{Eight, write_read}
use Rattle.cut.specs.Cut.{cut_table, cut_refusal, cut_of}
use Rattle.cut.proofs.CutLaws.{task_in, task_out, table_again_lem}
use Rattle.cut.proofs.TickLaws.{cut_n, cut_m, cut_policy}

-- what a call that cuts has: a valid table, and a k from 1 to n
pub record Cut (t : Table) (k : ℕ) : Type 0 where
  pub fine : table_fault t ≡ 0
  pub some : 1 ≤ k
  pub most : k ≤ t.n

module _ (t : Table) (k : ℕ) where
  -- a call that is not refused
  pub not_cut_refused : cut_refusal t k ≡ 0 → Cut t k
  unfolding cut_refusal
  not_cut_refused e =
      by_bool (ltb 0 (table_fault t))
      (λ h. absurd (omega (arith, ltb-true 0 (table_fault t) h, rw h at e)))
      (λ h.
      let z : pick (ltb k 1 || ltb t.n k) 6 0 ≡ 0 = rw h at e in
      let o = (pick_zero (ltb k 1 || ltb t.n k) 6 0 (omega arith) z).0 in
      record {
        fine = omega (arith, ltb-false 0 (table_fault t) h);
        some = ltb-false k 1 (nor_left (ltb k 1) (ltb t.n k) o);
        most = ltb-false t.n k (nor_right (ltb k 1) (ltb t.n k) o);
      })

  pub no_cut_refusal : Cut t k → cut_refusal t k ≡ 0
  unfolding cut_refusal
  no_cut_refusal x = rw (x.fine, le-ltb k 1 x.some, le-ltb t.n k x.most)

  module _ (x : Cut t k) where
    whole : Valid t
    whole = valid t x.fine

    cut_fits : (i : ℕ) → i < k → FitTask (get_or (cut_table k t).work i 0) (get_or (cut_table k t).deadline i 0) (get_or (cut_table k t).gap i 0)
    cut_fits i h =
        let e = task_in k t start i (omega (arith, whole.tasks.1, x.most)) h in
        rw (e.work, e.deadline, e.gap) (whole.each i (omega (arith, x.most)))

    cut_rest :
        (i : ℕ) → k ≤ i → i < 8
        → (get_or (cut_table k t).work i 0 ≡ 0) × (get_or (cut_table k t).deadline i 0 ≡ 0) × (get_or (cut_table k t).gap i 0 ≡ 0)
    cut_rest i h l = let e = task_out k t start i l h in (e.work, e.deadline, e.gap)

    -- THEOREM: the cut of a valid table to 1 to n tasks is valid
    pub cut_valid : table_fault (cut_table k t) ≡ 0
    cut_valid =
        not_refused (cut_table k t)
        (record {
          policy = rw (cut_policy k t) whole.policy;
          processors = rw (cut_m k t) whole.processors;
          tasks = rw (cut_n k t) (x.some, omega (arith, whole.tasks.1, x.most));
          each = λ i h. cut_fits i (rw (cut_n k t) at h);
          rest = λ i h l. cut_rest i (rw (cut_n k t) at h) l;
        })

    cut_eight : Eight (cut_table k t)
    unfolding cut_table
    cut_eight = record { work = refl; deadline = refl; gap = refl }

    -- THEOREM: its sheet fits 52 bytes, and is read as that table
    pub cut_short : length (sheet_bytes (cut_table k t)) ≤ 52
    cut_short = sheet_short (cut_table k t) cut_valid

    pub cut_read : sheet_of (sheet_bytes (cut_table k t)) ≡ Ok (cut_table k t)
    cut_read = write_read (cut_table k t) cut_eight cut_valid

    -- THEOREM: the calls: a table that is cut to k and then to j ≤ k answers as the table cut to j, a j of 0 too
    pub call_again : (j : ℕ) → j ≤ k → cut_of (cut_table k t) j ≡ cut_of t j
    unfolding cut_of cut_refusal
    call_again j h =
        let inner : ltb t.n j ≡ false = le-ltb t.n j (omega (arith, x.most)) in
        let outer : ltb (cut_table k t).n j ≡ false = le-ltb (cut_table k t).n j (rw (cut_n k t) h) in
        rw (cut_valid, x.fine, inner, outer, table_again_lem k j h t)

  -- ---- the answer, by what the code judges

  refusal_fault : 0 < table_fault t → cut_refusal t k ≡ table_fault t
  unfolding cut_refusal
  refusal_fault h = rw (lt-ltb 0 (table_fault t) h)

  refusal_outside : table_fault t ≡ 0 → cut_refusal t k ≡ pick (ltb k 1 || ltb t.n k) 6 0
  unfolding cut_refusal
  refusal_outside fine = rw fine

  pub answer_fault : {r : Refusal} → unless_refused (table_fault t) (tt {0}) ≡ Err r → Err r ≡ cut_of t k
  unfolding cut_of
  answer_fault h = refused_same (tt {0}) (cut_table k t) (sym (refusal_fault (refused_unless (table_fault t) (tt {0}) h).0)) h

  pub answer_outside : table_fault t ≡ 0 → ltb k 1 || ltb t.n k ≡ true → Err TaskCount ≡ cut_of t k
  unfolding cut_of
  answer_outside fine e = refused_at TaskCount (cut_table k t) (sym (rw e at (refusal_outside fine)))

  pub answer_cut : table_fault t ≡ 0 → ltb k 1 || ltb t.n k ≡ false → Ok (cut_table k t) ≡ cut_of t k
  unfolding cut_of
  answer_cut fine e = unless_none (cut_table k t) (sym (rw e at (refusal_outside fine)))

  six : 6 ≡ refusal_number (refusal_at 6)
  unfolding refusal_at
  six = refl

  refusal_named : Named (cut_refusal t k)
  unfolding cut_refusal
  refusal_named =
      pick_case Named (ltb 0 (table_fault t)) (fault_number t)
      (pick_case Named (ltb k 1 || ltb t.n k) {x = 6} {y = 0} (λ h. six) (λ h. absurd (omega arith)))

  -- and back
  pub answer_refused : {r : Refusal} → cut_of t k ≡ Err r → cut_refusal t k ≡ refusal_number r
  unfolding cut_of
  answer_refused e = refused_number (cut_refusal t k) (cut_table k t) refusal_named e

  pub answer_accepted : {u : Table} → cut_of t k ≡ Ok u → (cut_refusal t k ≡ 0) × (u ≡ cut_table k t)
  unfolding cut_of
  answer_accepted e = accepted_unless (cut_refusal t k) (cut_table k t) e
