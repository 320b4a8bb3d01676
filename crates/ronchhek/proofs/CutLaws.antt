-- The laws of the call that writes the sheet of a cut table: its refusals, and that the reader gives the cut table back. Assumes nothing.
use Prim.Native.Nat.{ℕ, ◌+◌, ◌^◌, ◌≤◌}
use mathlib.Core.Path.{◌≡◌, refl, sym, ap, ◌∙◌}
use mathlib.Core.List.{List}
use lib.ListN.{length, take, drop}
use lib.Seq.{take_at}
use borrow.Author.Tests.{lt-ltb, le-ltb}
use Rattle.std.specs.Prelude.{Ok, Err}
use Rattle.tasks.specs.Refusals.{refusal_number}
use Rattle.tasks.specs.Sheet.{sheet_of, sheet_bytes, write_refusal, write_out}
use Rattle.tasks.specs.declared.refusal.Refusal.{Refusal}
use Rattle.tasks.specs.declared.table.Table.{Table}
use Rattle.tasks.proofs.Refusals.{refusal_some}
use Rattle.cut.specs.Cut.{cut_table, cut_refusal, cut_of}
use Rattle.cut.proofs.TableLaws.{not_cut_refused, cut_valid, cut_read, answer_refused, answer_accepted}
use Rattle.ronchhek.specs.Tables.{sheet_number}
use Rattle.ronchhek.specs.Cuts.{first_number, first_space, cut_number, cut_space}

module _ (t : Table) (k : ℕ) (out : List ℕ) where
  -- the table is not cut
  pub first_refused : {r : Refusal} → cut_of t k ≡ Err r → (refusal_number r ≡ first_number t k out) × (out ≡ first_space t k out)
  unfolding first_number first_space
  first_refused {r} e =
      let is = answer_refused t k e in
      let l = lt-ltb 0 (refusal_number r) (refusal_some r) in
      (rw (is, l), rw (is, l))

  -- the writer is given the cut table
  pub first_written :
      {u : Table} → cut_of t k ≡ Ok u → (sheet_number u out ≡ first_number t k out) × (write_out u out ≡ first_space t k out)
  unfolding first_number first_space
  first_written e = let a = answer_accepted t k e in (rw (a.1, a.0), rw (a.1, a.0))

  module _ (none : cut_refusal t k ≡ 0) (room : length (sheet_bytes (cut_table k t)) ≤ length out) where
    -- the cut is valid, so the output's length is all that the writer asks of it
    no_refusal : write_refusal (cut_table k t) out ≡ 0
    unfolding write_refusal
    no_refusal = rw (cut_valid t k (not_cut_refused t k none), le-ltb (length out) (length (sheet_bytes (cut_table k t))) room)

    first_done : first_number t k out ≡ 2 ^ 48 + length (sheet_bytes (cut_table k t))
    unfolding first_number sheet_number
    first_done = rw (none, no_refusal)

    first_front : take (length (sheet_bytes (cut_table k t))) (first_space t k out) ≡ sheet_bytes (cut_table k t)
    unfolding first_space write_out
    first_front = rw (none, no_refusal) (take_at (sheet_bytes (cut_table k t)) (drop (length (sheet_bytes (cut_table k t))) out) (length (sheet_bytes (cut_table k t))) refl)

module _ (sheet : List ℕ) (k : ℕ) (out : List ℕ) where
  -- the sheet is refused
  pub cut_refused : {r : Refusal} → sheet_of sheet ≡ Err r → (refusal_number r ≡ cut_number sheet k out) × (out ≡ cut_space sheet k out)
  unfolding cut_number cut_space
  cut_refused e = (rw e, rw e)

  module _ {t : Table} (e : sheet_of sheet ≡ Ok t) where
    pub cut_first : (first_number t k out ≡ cut_number sheet k out) × (first_space t k out ≡ cut_space sheet k out)
    unfolding cut_number cut_space
    cut_first = (rw e, rw e)

    module _ (none : cut_refusal t k ≡ 0) (room : length (sheet_bytes (cut_table k t)) ≤ length out) where
      -- THEOREM: of a sheet that is accepted and a k from 1 to n, where the output has room: the number is kind 1 with the sheet's length
      pub cut_done : cut_number sheet k out ≡ 2 ^ 48 + length (sheet_bytes (cut_table k t))
      cut_done = sym cut_first.0 ∙ first_done t k out none room

      -- THEOREM: and as many bytes of the output are read as the cut table
      pub cut_again : sheet_of (take (length (sheet_bytes (cut_table k t))) (cut_space sheet k out)) ≡ Ok (cut_table k t)
      cut_again =
          ap (λ b. sheet_of (take (length (sheet_bytes (cut_table k t))) b)) (sym cut_first.1)
          ∙ ap sheet_of (first_front t k out none room)
          ∙ cut_read t k (not_cut_refused t k none)
