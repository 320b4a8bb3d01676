-- The round trips of the two calls: what the writer leaves of an accepted sheet's table, and what the reader finds in a valid
-- table's sheet. Assumes nothing.
use Prim.Native.Nat.{ℕ, ◌≤◌, ◌<◌}
use mathlib.Core.Path.{◌≡◌, sym, ap, ◌∙◌}
use mathlib.Core.List.{List, ◌++◌}
use native.Mathlib.Omega.{arith}
use lib.Dec.{ltb}
use lib.ListN.{length, get_or, take, drop}
use lib.Seq.{take_at}
use borrow.Author.Tests.{ltb-true, ltb-false}
use Rattle.std.specs.Prelude.{Result, Ok, Err}
use Rattle.tasks.specs.declared.refusal.Refusal.{Refusal}
use Rattle.tasks.specs.Table.{table_fault}
use Rattle.tasks.specs.Answers.{writing_answer}
use Rattle.tasks.specs.Sheet.{sheet_of, sheet_bytes, write_answer, write_out, copy_answer, copy_out, table_again}
use Rattle.tasks.specs.declared.table.Table.{Table}
use Rattle.lists.proofs.Bools.{by_bool}
use Rattle.tasks.specs.Refusals.{refusal_number, refusal_at}
use Rattle.tasks.proofs.Refusals.{refused_at, unless_none}
use Rattle.tasks.proofs.Tables.{fault_number}
use Rattle.tasks.proofs.Answers.{writing_is}
use Rattle.tasks.proofs.Sheets.{write_fault, write_short, write_done, write_out_lem, sheet_short}
use Rattle.tasks.proofs.RoundTrip.{Eight, read_write, read_valid, write_read}

module _ (s out : List ℕ) where
  -- a refused sheet leaves the output
  pub copy_refused : (r : Refusal) → sheet_of s ≡ Err r → (writing_answer (Err r) ≡ copy_answer s out) × (out ≡ copy_out s out)
  unfolding writing_answer copy_answer copy_out
  copy_refused r e = (rw e, rw e)

  -- an accepted sheet's table is written as the sheet
  pub copy_accepted :
      ((i : ℕ) → get_or s i 0 < 256) → (t : Table) → sheet_of s ≡ Ok t
      → (write_answer t out ≡ copy_answer s out) × (write_out t out ≡ copy_out s out)
  unfolding writing_answer copy_answer copy_out
  copy_accepted byte t read =
      let same : sheet_bytes t ≡ s = read_write s byte t read in
      let fine : table_fault t ≡ 0 = read_valid s byte t read in
      by_bool (ltb (length out) (length s))
      (λ h.
      let short : length out < length (sheet_bytes t) = omega (arith, ap length same, ltb-true (length out) (length s) h) in
      let w = write_short t out fine short in
      (sym w.0 ∙ rw (read, h), sym w.1 ∙ rw (read, h)))
      (λ h.
      let room : length (sheet_bytes t) ≤ length out = omega (arith, ap length same, ltb-false (length out) (length s) h) in
      let w = write_done t out fine room in
      (sym w.0 ∙ ap (λ l. writing_answer (Ok (length l))) same ∙ rw (read, h), write_out_lem t out fine room ∙ ap (λ l. l ++ drop (length l) out) same ∙ rw (read, h)))

no_length : {X : Type 0} {r : Refusal} {n : ℕ} → ◌≡◌ {A = Result ℕ Refusal} (Err r) (Ok n) → X
no_length e = absurd (let z : ◌≡◌ {A = ℕ} 0 1 = cc in omega arith)

module _ (t : Table) (out : List ℕ) (room : 52 ≤ length out) where
  valid_room : table_fault t ≡ 0 → length (sheet_bytes t) ≤ length out
  valid_room f = omega (arith, sheet_short t f)

  by_fault : {X : Type 0} → ((r : Refusal) → table_fault t ≡ refusal_number r → X) → (table_fault t ≡ 0 → X) → X
  by_fault f g =
      by_bool (ltb 0 (table_fault t))
      (λ h. f (refusal_at (table_fault t)) (fault_number t (ltb-true 0 (table_fault t) h)))
      (λ h. g (omega (arith, ltb-false 0 (table_fault t) h)))

  -- 52 bytes are room for every valid table, so a refusal is the table's
  pub again_refused : (r : Refusal) → writing_answer (Err r) ≡ write_answer t out → Err r ≡ table_again t
  unfolding table_again
  again_refused r e =
      by_fault
      (λ q h.
      let same : ◌≡◌ {A = Result ℕ Refusal} (Err r) (Err q) = writing_is (e ∙ sym (write_fault t out q h).0) in
      let r-is : r ≡ q = cc in
      rw r-is (refused_at q t (sym h)))
      (λ f. no_length (writing_is (e ∙ sym (write_done t out f (valid_room f)).0)))

  -- and what is written is read as the table
  pub again_written : Eight t → (n : ℕ) → writing_answer (Ok n) ≡ write_answer t out → (n ≤ 52) × (sheet_of (take n (write_out t out)) ≡ table_again t)
  unfolding table_again
  again_written e n q =
      by_fault (λ r h. no_length (writing_is ((write_fault t out r h).0 ∙ sym q)))
      (λ f.
      let same : ◌≡◌ {A = Result ℕ Refusal} (Ok n) (Ok (length (sheet_bytes t))) = writing_is (q ∙ sym (write_done t out f (valid_room f)).0) in
      let n-is : n ≡ length (sheet_bytes t) = cc in
      (omega (arith, sheet_short t f), rw (write_out_lem t out f (valid_room f), take_at (sheet_bytes t) (drop (length (sheet_bytes t)) out) n (sym n-is)) (write_read t e f ∙ unless_none t (sym f))))
