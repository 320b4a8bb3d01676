-- The three ways in which a writing ends. Assumes nothing.
use Rattle.std.proofs.Common.{rules}
use Rattle.std.specs.Prelude.{Err}
use Rattle.tasks.specs.Refusals.{refusal_number}
use Rattle.tasks.specs.Table.{table_fault}
use Rattle.tasks.specs.Answers.{writing_answer}
use Rattle.tasks.proofs.Refusals.{refused_unless, accepted_unless}
use Rattle.tasks.proofs.Sheets.{write_fault, write_short, write_done}
use Rattle.tasks.proofs.Tables.{valid, fault_number}
use mathlib.Core.Path.{◌≡◌, sym, ap, ◌∙◌}
use Rattle.tasks.proofs.writer.write_sheet.Goals as goal

pub returns-in_err-check : goal.returns-in_err-check
returns-in_err-check c =
    let a = c.args in
    let f = refused_unless (table_fault a.t) tt (sym c.check.ensures ∙ c.in_err-check.was) in
    let n : table_fault a.t ≡ refusal_number c.in_err-check.field-0.0 = fault_number a.t f.0 ∙ ap refusal_number f.1 in
    let w = write_fault a.t a.out.now c.in_err-check.field-0.0 n in
    let r : c.from_residual.result ≡ Err c.in_err-check.field-0.0 = search rules in
    (ap writing_answer r ∙ w.0, w.1)

pub sheet_len-n-requires : goal.sheet_len-n-requires
sheet_len-n-requires c =
    (valid c.args.t (accepted_unless (table_fault c.args.t) tt (sym c.check.ensures ∙ c.in_ok-check.was)).0).tasks.1

pub returns-then-out-n : goal.returns-then-out-n
returns-then-out-n c =
    let z = (accepted_unless (table_fault c.args.t) tt (sym c.check.ensures ∙ c.in_ok-check.was)).0 in
    write_short c.args.t c.args.out.now z (rw c.sheet_len-n.ensures at c.if-out-n.true)

pub put_sheet-requires : goal.put_sheet-requires
put_sheet-requires c = (
  (valid c.args.t (accepted_unless (table_fault c.args.t) tt (sym c.check.ensures ∙ c.in_ok-check.was)).0).tasks.1,
  rw c.sheet_len-n.ensures at c.if-out-n.false,
)

pub returns : goal.returns
returns c =
    let z = (accepted_unless (table_fault c.args.t) tt (sym c.check.ensures ∙ c.in_ok-check.was)).0 in
    let w = write_done c.args.t c.args.out.now z (rw c.sheet_len-n.ensures at c.if-out-n.false) in
    (rw c.sheet_len-n.ensures w.0, c.put_sheet.ensures ∙ w.1)
