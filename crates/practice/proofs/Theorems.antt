-- Every practice table is valid, and is read back from its sheet. Assumes nothing.
use Prim.Native.Nat.{ℕ, ◌≤◌, ◌<◌}
use mathlib.Core.Path.{◌≡◌, refl, sym, ◌∙◌}
use mathlib.Core.Bool.{false}
use lib.Dec.{ltb}
use lib.ListN.{length}
use Rattle.lists.proofs.Bools.{by_bool}
use Rattle.lists.proofs.Counts.{none_any}
use Rattle.lists.proofs.Fill.{front_at}
use Rattle.std.specs.Prelude.{Ok, Err}
use Rattle.tasks.specs.Table.{fault_at, table_fault}
use Rattle.tasks.specs.Sheet.{sheet_of, sheet_bytes}
use Rattle.tasks.specs.Refusals.{refusal_number, unless_refused}
use Rattle.tasks.specs.declared.refusal.Refusal.{Refusal}
use Rattle.tasks.specs.declared.table.Table.{Table}
use Rattle.tasks.proofs.Refusals.{Named, unless_none, accepted_unless, refused_number, refused_same}
use Rattle.tasks.proofs.Tables.{task_fits, fault_number}
use Rattle.tasks.proofs.Sheets.{sheet_short}
use Rattle.tasks.proofs.RoundTrip.{Eight, write_read}
use Rattle.practice.specs.Practice.{gap_drawn, deadline_drawn, work_drawn, practice_table, practice_refusal, practice_of}
use Rattle.practice.proofs.DrawLaws.{drawn_fits}

module _ (policy m n s : ℕ) where
  -- no task breaks the rule, and the entries after the nth are 0
  no_fault : (i : ℕ) → i < 8 → fault_at (practice_table policy m n s) i ≡ false
  unfolding practice_table fault_at
  no_fault i h =
      rw (front_at n (λ k. work_drawn k s) i h, front_at n (λ k. deadline_drawn k s) i h, front_at n (λ k. gap_drawn k s) i h)
      (by_bool (ltb i n) (λ e. rw e (task_fits (drawn_fits i s))) (λ e. rw e))

  -- THEOREM: for any four numbers the judge of tables refuses with 4, 5 or 6 by the first three, or not at all
  pub practice_fault : table_fault (practice_table policy m n s) ≡ practice_refusal policy m n
  unfolding table_fault practice_refusal practice_table
  practice_fault = rw (none_any (fault_at (practice_table policy m n s)) 8 no_fault)

  -- THEOREM: every table made is valid
  pub practice_valid : practice_refusal policy m n ≡ 0 → table_fault (practice_table policy m n s) ≡ 0
  practice_valid e = practice_fault ∙ e

  -- what the call answers, by what the judge says of the table
  pub practice_refused : {r : Refusal} → unless_refused (table_fault (practice_table policy m n s)) (tt {0}) ≡ Err r → Err r ≡ practice_of policy m n s
  unfolding practice_of
  practice_refused h = refused_same (tt {0}) (practice_table policy m n s) practice_fault h

  pub practice_made : table_fault (practice_table policy m n s) ≡ 0 → Ok (practice_table policy m n s) ≡ practice_of policy m n s
  unfolding practice_of
  practice_made e = unless_none (practice_table policy m n s) (sym (sym practice_fault ∙ e))

  refusal_named : Named (practice_refusal policy m n)
  refusal_named = rw (← practice_fault) (fault_number (practice_table policy m n s))

  -- and back: a refusal is that of the first three numbers, and a table that is made is the practice table
  pub answer_refused : {r : Refusal} → practice_of policy m n s ≡ Err r → practice_refusal policy m n ≡ refusal_number r
  unfolding practice_of
  answer_refused e = refused_number (practice_refusal policy m n) (practice_table policy m n s) refusal_named e

  pub answer_made : {t : Table} → practice_of policy m n s ≡ Ok t → t ≡ practice_table policy m n s
  unfolding practice_of
  answer_made e = (accepted_unless (practice_refusal policy m n) (practice_table policy m n s) e).1

  practice_eight : Eight (practice_table policy m n s)
  unfolding practice_table
  practice_eight = record { work = refl; deadline = refl; gap = refl }

  -- THEOREM: the sheet of every table made fits 52 bytes, so it can be written
  pub practice_short : practice_refusal policy m n ≡ 0 → length (sheet_bytes (practice_table policy m n s)) ≤ 52
  practice_short e = sheet_short (practice_table policy m n s) (practice_valid e)

  -- THEOREM: and is read as that table
  pub practice_read : practice_refusal policy m n ≡ 0 → sheet_of (sheet_bytes (practice_table policy m n s)) ≡ Ok (practice_table policy m n s)
  practice_read e = write_read (practice_table policy m n s) practice_eight (practice_valid e)
