-- The sheet is refused, or the file is judged with its table, which is valid. Assumes nothing.
use mathlib.Core.Path.{◌≡◌, sym, ◌∙◌}
use Rattle.std.proofs.Common.{rules, arith}
use Rattle.std.specs.Prelude.{Ok, Err}
use Rattle.tasks.specs.Sheet.{sheet_of}
use Rattle.tasks.proofs.RoundTrip.{read_valid}
use Rattle.closed.proofs.AnswerLaws.{judged_refused, sheet_fault, sheet_read}
use Rattle.closed.proofs.check.closed_sheet.Goals as goal

pub returns-in_err-t : goal.returns-in_err-t
returns-in_err-t c =
    let a = c.args in
    let r : c.from_residual.result ≡ Err c.in_err-t.field-0.0 = search rules in
    rw r (judged_refused _ (sheet_fault a.file.now a.sheet.now (sym c.read_sheet.ensures ∙ c.in_err-t.was)))

pub invariant_of-closed_valid : goal.invariant_of-closed_valid
invariant_of-closed_valid c =
    let known = c.type_inv.sheet in
    record { sound = read_valid c.args.sheet.now (λ i. omega (arith, known i)) _ (sym c.read_sheet.ensures ∙ c.in_ok-t.was) }

pub returns : goal.returns
returns c =
    let a = c.args in
    let is : sheet_of a.sheet.now ≡ Ok c.in_ok-t.t = sym c.read_sheet.ensures ∙ c.in_ok-t.was in
    rw (sheet_read a.file.now a.sheet.now is, is) c.closed_valid.ensures
