-- The laws of a table's 27 bytes and of its two calls. Assumes nothing.
use Prim.Native.Nat.{ℕ, zero, suc, ◌+◌, ◌-◌, ◌*◌, ◌^◌, ◌≤◌, ◌<◌}
use mathlib.Core.Path.{◌≡◌, refl, ap, ◌∙◌}
use mathlib.Core.List.{List, [], ◌∷◌, ◌++◌, append-nil}
use native.Mathlib.Omega.{arith}
use lib.Dec.{ltb}
use lib.ListN.{length, get_or, drop, drop_of_length-le}
use lib.Seq.{sets, sets-eq}
use borrow.Author.Tests.{lt-ltb, le-ltb, ltb-true, ltb-false}
use Rattle.lists.specs.Lists.{pick}
use Rattle.tasks.specs.Table.{table_fault}
use Rattle.std.specs.Prelude.{Result, Ok, Err, IfOk}
use Rattle.tasks.specs.Refusals.{refusal_number}
use Rattle.tasks.specs.Answers.{writing_answer}
use Rattle.tasks.specs.Sheet.{sheet_of, write_refusal, write_answer, write_out}
use Rattle.tasks.specs.declared.table.Table.{Table}
use Rattle.tasks.specs.declared.refusal.Refusal.{Refusal}
use Rattle.lists.proofs.Bools.{by_bool}
use Rattle.tasks.proofs.Answers.{other, second}
use Rattle.tasks.proofs.Refusals.{refusal_some}
use Rattle.tasks.proofs.Sheets.{sheet_short}
use Rattle.ronchhek.specs.Tables.{number_of, entries, table_bytes, table_from, read_number, read_space, sheet_number, bytes_refusal, write_number, write_space}

-- ---- the 27 bytes written

-- task i's three numbers, and then those of the tasks after it
pub entries_turn :
    (t : Table) (i : ℕ) → i < 8
    → entries t (8 - i) i ≡ (get_or t.work i 0 ∷ get_or t.deadline i 0 ∷ get_or t.gap i 0 ∷ []) ++ entries t (8 - (i + 1)) (i + 1)
unfolding entries
entries_turn t i h = let e : 8 - i ≡ suc (8 - (i + 1)) = omega arith in rw e

pub entries_end : (t : Table) (i : ℕ) → 8 ≤ i → entries t (8 - i) i ≡ []
unfolding entries
entries_end t i h = let e : 8 - i ≡ 0 = omega arith in rw e

pub entries_length : (t : Table) (k i : ℕ) → length (entries t k i) ≡ 3 * k
unfolding entries
entries_length t zero i = refl
entries_length t (suc k) i = let e = entries_length t k (i + 1) in omega arith

pub table_length : (t : Table) → length (table_bytes t) ≡ 27
unfolding table_bytes
table_length t = omega (arith, entries_length t 8 0)

-- all bytes stored
pub stored_whole : (t : Table) (l : List ℕ) → length l ≡ 27 → sets l 0 (table_bytes t) ≡ table_bytes t
stored_whole t l n =
    let k = table_length t in
    sets-eq (table_bytes t) l 0 (omega arith) ∙ ap (λ d. table_bytes t ++ d) (drop_of_length-le l (omega arith)) ∙ append-nil (table_bytes t)

-- ---- the calls

module _ (sheet space : List ℕ) where
  pub read_refused : {r : Refusal} → sheet_of sheet ≡ Err r → (refusal_number r ≡ read_number sheet space) × (space ≡ read_space sheet space)
  unfolding read_number read_space
  read_refused {r} e = let l = lt-ltb 0 (refusal_number r) (refusal_some r) in (rw (e, l), rw (e, l))

  module _ {t : Table} (e : sheet_of sheet ≡ Ok t) where
    pub read_short : length space < 27 → (12 ≡ read_number sheet space) × (space ≡ read_space sheet space)
    unfolding read_number read_space
    read_short h = let s = lt-ltb (length space) 27 h in (rw (e, s), rw (e, s))

    pub read_done : 27 ≤ length space → (2 ^ 48 + 27 ≡ read_number sheet space) × (table_bytes t ++ drop 27 space ≡ read_space sheet space)
    unfolding read_number read_space
    read_done h = let s = le-ltb (length space) 27 h in (rw (e, s), rw (e, s))

fault_none : (t : Table) (out : List ℕ) → write_refusal t out ≤ 0 → table_fault t ≡ 0
unfolding write_refusal
fault_none t out h =
    by_bool (ltb 0 (table_fault t))
    (λ e. absurd (omega (arith, ltb-true 0 (table_fault t) e, rw e at h)))
    (λ e. omega (arith, ltb-false 0 (table_fault t) e))

module _ (t : Table) (out : List ℕ) where
  -- LAW: the number of what the writer answers
  pub sheet_told : (a : Result ℕ Refusal) → writing_answer a ≡ write_answer t out → (number_of a ≡ sheet_number t out) × IfOk a (λ n. n ≤ 52)
  unfolding sheet_number write_answer writing_answer
  sheet_told (Ok n) e =
      by_bool (ltb 0 (write_refusal t out))
      (λ h. other (λ x. omega arith) (rw h at e))
      (λ h.
      let is = second (rw h at e) in
      let short = sheet_short t (fault_none t out (ltb-false 0 (write_refusal t out) h)) in
      (rw h (ap (λ k. 2 ^ 48 + k) is), omega arith))
  sheet_told (Err r) e =
      by_bool (ltb 0 (write_refusal t out))
      (λ h. (rw h (second (rw h at e)), tt))
      (λ h. other (λ x. omega arith) (rw h at e))

  -- a refusal leaves the output
  pub out_stays : write_out t out ≡ pick (ltb 0 (write_refusal t out)) out (write_out t out)
  unfolding write_out
  out_stays = by_bool (ltb 0 (write_refusal t out)) (λ h. rw h) (λ h. rw h)

module _ (table out : List ℕ) where
  -- the bytes end before the table is complete, or go on after it
  pub table_short : length table < 27 → (1 ≡ write_number table out) × (out ≡ write_space table out)
  unfolding write_number write_space bytes_refusal
  table_short h = let e = lt-ltb (length table) 27 h in (rw e, rw e)

  pub table_long : 27 < length table → (8 ≡ write_number table out) × (out ≡ write_space table out)
  unfolding write_number write_space bytes_refusal
  table_long h = let e = lt-ltb 27 (length table) h in let s = le-ltb (length table) 27 (omega arith) in (rw (s, e), rw (s, e))

  -- the bytes are those of a table
  pub table_whole :
      27 ≤ length table → length table ≤ 27 → (sheet_number (table_from table) out ≡ write_number table out) × (write_out (table_from table) out ≡ write_space table out)
  unfolding sheet_number write_number write_space bytes_refusal
  table_whole from upto =
      let e = le-ltb (length table) 27 from in
      let s = le-ltb 27 (length table) upto in
      (rw (e, s), rw (e, s) (out_stays (table_from table) out))
