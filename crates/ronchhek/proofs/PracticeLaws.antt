-- The laws of the call that writes a practice sheet: it is what the writer makes of the practice table, and the reader gives that table
-- back. Assumes nothing.
use Prim.Native.Nat.{ℕ, ◌+◌, ◌^◌, ◌≤◌}
use mathlib.Core.Path.{◌≡◌, refl, ap, ◌∙◌}
use mathlib.Core.List.{List}
use lib.ListN.{length, take, drop}
use lib.Seq.{take_at}
use borrow.Author.Tests.{lt-ltb, le-ltb}
use Rattle.std.specs.Prelude.{Ok, Err}
use Rattle.tasks.specs.Refusals.{refusal_number}
use Rattle.tasks.specs.Sheet.{sheet_of, write_refusal, write_out}
use Rattle.tasks.specs.declared.refusal.Refusal.{Refusal}
use Rattle.tasks.proofs.Refusals.{refusal_some}
use Rattle.practice.specs.Practice.{practice_table, practice_refusal, practice_of}
use Rattle.practice.proofs.Theorems.{practice_fault, practice_read, answer_refused}
use Rattle.ronchhek.specs.Tables.{sheet_number}
use Rattle.ronchhek.specs.Practices.{practice_sheet, sheet_refusal, practice_number, practice_space}

module _ (policy m n s : ℕ) (out : List ℕ) where
  -- the refusals are those of the writer
  same_refusal : write_refusal (practice_table policy m n s) out ≡ sheet_refusal policy m n s out
  unfolding write_refusal sheet_refusal
  same_refusal = rw (practice_fault policy m n s)

  refusal_is : (r : Refusal) → practice_refusal policy m n ≡ refusal_number r → sheet_refusal policy m n s out ≡ refusal_number r
  unfolding sheet_refusal
  refusal_is r e = let l = lt-ltb 0 (refusal_number r) (refusal_some r) in rw (e, l)

  -- policy, m or n is refused
  pub number_refused :
      {r : Refusal} → practice_of policy m n s ≡ Err r → (refusal_number r ≡ practice_number policy m n s out) × (out ≡ practice_space policy m n s out)
  unfolding practice_number practice_space
  number_refused {r} e =
      let q = refusal_is r (answer_refused policy m n s e) in
      let l = lt-ltb 0 (refusal_number r) (refusal_some r) in
      (rw (q, l), rw (q, l))

  -- the writer is given the practice table
  pub practice_written :
      (sheet_number (practice_table policy m n s) out ≡ practice_number policy m n s out) × (write_out (practice_table policy m n s) out ≡ practice_space policy m n s out)
  unfolding sheet_number practice_number practice_space write_out
  practice_written = (rw same_refusal, rw same_refusal)

  module _ (e : practice_refusal policy m n ≡ 0) (room : length (practice_sheet policy m n s) ≤ length out) where
    no_refusal : sheet_refusal policy m n s out ≡ 0
    unfolding sheet_refusal
    no_refusal = rw (e, le-ltb (length out) (length (practice_sheet policy m n s)) room)

    -- THEOREM: the number is kind 1 with the sheet's length
    pub practice_done : practice_number policy m n s out ≡ 2 ^ 48 + length (practice_sheet policy m n s)
    unfolding practice_number
    practice_done = rw no_refusal

    front_is : take (length (practice_sheet policy m n s)) (practice_space policy m n s out) ≡ practice_sheet policy m n s
    unfolding practice_space
    front_is =
        rw no_refusal
        (take_at (practice_sheet policy m n s) (drop (length (practice_sheet policy m n s)) out) (length (practice_sheet policy m n s)) refl)

    -- THEOREM: as many bytes of the output are read as the practice table
    pub practice_again :
        sheet_of (take (length (practice_sheet policy m n s)) (practice_space policy m n s out)) ≡ Ok (practice_table policy m n s)
    practice_again = ap sheet_of front_is ∙ practice_read policy m n s e
