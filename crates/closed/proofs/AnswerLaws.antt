-- The answers, case by case, and the refusals. Assumes nothing.
use Prim.Native.Nat.{ℕ, ◌%◌, ◌/◌}
use mathlib.Core.Path.{◌≡◌, refl, sym, ap}
use mathlib.Core.Bool.{Bool, true, false}
use mathlib.Core.List.{List, [], ◌∷◌}
use native.Mathlib.Omega.{arith}
use borrow.Author.Tests.{lt-ltb}
use lib.ListN.{length}
use Rattle.std.specs.Prelude.{Ok, Err, ◌||◌, eqb, ltb}
use Rattle.tasks.specs.Table.{table_fault}
use Rattle.tasks.specs.Refusals.{refusal_number, unless_refused}
use Rattle.tasks.specs.declared.refusal.Refusal.{Refusal}
use Rattle.tasks.specs.Sheet.{sheet_of, after_reading}
use Rattle.tasks.specs.State.{start}
use Rattle.tasks.specs.declared.table.Table.{Table}
use Rattle.tasks.proofs.Refusals.{refusal_some, refused_unless, refused_number}
use Rattle.tasks.proofs.Tables.{fault_number}
use Rattle.closed.specs.Closed.{states_in, Contains, Closed, file_refusal, table_file_refusal, sheet_file_refusal, closed_answer, Judged}
use Rattle.closed.specs.Keeping.{Every, Sound, InsideIs, ClosedIs, Given}
use Rattle.closed.proofs.InsideLaws.{all_closed}

-- ---- the answer

one_two : (◌≡◌ {A = List ℕ} (1 ∷ []) (2 ∷ [])) → ⊥
one_two e = let z : ◌≡◌ {A = ℕ} 1 2 = cc in omega arith

pub judged_refused : {q : ℕ} (r : Refusal) {t : Table} {file : List ℕ} → q ≡ refusal_number r → Judged q t file (closed_answer (Err r))
unfolding closed_answer
judged_refused {q} r e =
    let some = refusal_some r in
    record {
      refused = λ b. rw e;
      accepted = λ z. absurd (omega arith);
      no = λ z. absurd (omega arith);
    }

judged_accepted : {q : ℕ} {t : Table} {file : List ℕ} → q ≡ 0 → Closed t file → Judged q t file (1 ∷ [])
judged_accepted z x = record {
  refused = λ b. absurd (omega arith);
  accepted = λ z. (λ e. x, λ y. refl);
  no = λ z. (λ e. absurd (one_two e), λ y. absurd (y x));
}

judged_no : {q : ℕ} {t : Table} {file : List ℕ} → q ≡ 0 → (Closed t file → ⊥) → Judged q t file (2 ∷ [])
judged_no z x = record {
  refused = λ b. absurd (omega arith);
  accepted = λ z. (λ e. absurd (one_two (sym e)), λ y. absurd (x y));
  no = λ z. (λ e. x, λ y. refl);
}

-- a file that is judged
pub judged : {q : ℕ} {t : Table} {file : List ℕ} (r : Bool) → q ≡ 0 → ClosedIs t file r → Judged q t file (closed_answer (Ok r))
unfolding closed_answer
judged true z x = judged_accepted z x
judged false z x = judged_no z x

-- what the passes end with
pub closed_is :
    (t : Table) (file : List ℕ) (r : Bool) → table_fault t ≡ 0 → Sound t file → Contains file start → InsideIs t file Every r → ClosedIs t file r
closed_is t file true valid sound begins x = all_closed t file valid sound begins x
closed_is t file false valid sound begins x = x

-- ---- the refusals

module _ (file : List ℕ) where
  pub file_refused : eqb (length file) 0 || ltb 0 (length file % 16) ≡ true → file_refusal file ≡ 14
  unfolding file_refusal
  file_refused e = rw e

  pub file_whole : eqb (length file) 0 || ltb 0 (length file % 16) ≡ false → file_refusal file ≡ 0
  unfolding file_refusal
  file_whole e = rw e

  -- a file with so many states
  pub file_given : (t : Table) → table_fault t ≡ 0 → Given t file (length file / 16)
  unfolding states_in
  file_given t valid = record { valid = valid; is = refl }

  module _ (t : Table) where
    pub table_fault_lem : {r : Refusal} → unless_refused (table_fault t) (tt {0}) ≡ Err r → table_file_refusal t file ≡ refusal_number r
    unfolding table_file_refusal
    table_fault_lem e =
        rw (lt-ltb 0 (table_fault t) (refused_unless (table_fault t) (tt {0}) e).0) (refused_number (table_fault t) (tt {0}) (fault_number t) e)

    pub table_valid : table_fault t ≡ 0 → table_file_refusal t file ≡ file_refusal file
    unfolding table_file_refusal
    table_valid e = rw e

  module _ (sheet : List ℕ) where
    pub sheet_fault : {r : Refusal} → sheet_of sheet ≡ Err r → sheet_file_refusal sheet file ≡ refusal_number r
    unfolding sheet_file_refusal
    sheet_fault e = ap (λ a. after_reading a (file_refusal file)) e

    pub sheet_read : {t : Table} → sheet_of sheet ≡ Ok t → sheet_file_refusal sheet file ≡ file_refusal file
    unfolding sheet_file_refusal
    sheet_read e = ap (λ a. after_reading a (file_refusal file)) e
