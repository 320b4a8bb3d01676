use mathlib.Core.Path.{◌≡◌, sym, ◌∙◌}
use Rattle.std.proofs.Common.{rules}
use Rattle.std.specs.Prelude.{Err}
use Rattle.session_bytes.proofs.CallLaws.{sheet_refused, space_short, sheet_front}
use Rattle.session_bytes.proofs.calls.call_sheet.Goals as goal

pub returns-in_err-table : goal.returns-in_err-table
returns-in_err-table c =
    let a = c.args in
    let r : c.from_residual.result ≡ Err c.in_err-table.field-0.0 = search rules in
    let told = sheet_refused a.sheet.now a.space.now a.call (sym c.read_sheet.ensures ∙ c.in_err-table.was) in
    (r ∙ told.0, told.1)

pub returns-in_default : goal.returns-in_default
returns-in_default c =
    let a = c.args in
    space_short a.sheet.now a.space.now a.call (sym c.read_sheet.ensures ∙ c.in_ok-table.was) c.in_default.ensures.cases

pub returns : goal.returns
returns c =
    let a = c.args in
    let first = c.in-Some.ensures.cases in
    sheet_front a.sheet.now a.space.now a.call (sym c.read_sheet.ensures ∙ c.in_ok-table.was) first.enough first.same c.call_table.ensures
