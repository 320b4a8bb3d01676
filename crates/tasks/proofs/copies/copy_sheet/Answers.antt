-- A refused sheet, or the table of an accepted one, whose sheet is the same bytes. Assumes nothing.
use Rattle.std.proofs.Common.{rules}
use Rattle.std.specs.Prelude.{Err}
use Rattle.tasks.specs.Answers.{writing_answer}
use Rattle.tasks.proofs.Again.{copy_refused, copy_accepted}
use mathlib.Core.Path.{◌≡◌, sym, ap, ◌∙◌}
use native.Mathlib.Omega.{arith}
use Rattle.tasks.proofs.copies.copy_sheet.Goals as goal

pub returns-in_err-table : goal.returns-in_err-table
returns-in_err-table c =
    let a = c.args in
    let w = copy_refused a.s.now a.out.now c.in_err-table.field-0.0 (sym c.read_sheet.ensures ∙ c.in_err-table.was) in
    let r : c.from_residual.result ≡ Err c.in_err-table.field-0.0 = search rules in
    (ap writing_answer r ∙ w.0, w.1)

pub returns : goal.returns
returns c =
    let a = c.args in
    let w = copy_accepted a.s.now a.out.now (λ i. omega (arith, c.type_inv.s i)) c.in_ok-table.table (sym c.read_sheet.ensures ∙ c.in_ok-table.was) in
    (c.write_sheet.ensures.0 ∙ w.0, c.write_sheet.ensures.1 ∙ w.1)
