-- The sheet is refused, its table is not cut, or the cut table is written. Assumes nothing.
use mathlib.Core.Path.{◌≡◌, sym, ◌∙◌}
use Rattle.std.proofs.Common.{rules}
use Rattle.std.specs.Prelude.{Err}
use Rattle.ronchhek.proofs.TableLaws.{sheet_told}
use Rattle.ronchhek.proofs.CutLaws.{first_refused, first_written, cut_refused, cut_first}
use Rattle.ronchhek.proofs.cuts.write_cut.Goals as goal

pub returns-in_err-table : goal.returns-in_err-table
returns-in_err-table c =
    let a = c.args in
    let r : c.from_residual.result ≡ Err c.in_err-table.field-0.0 = search rules in
    let w = cut_refused a.sheet.now a.k a.out.now (sym c.read_sheet.ensures ∙ c.in_err-table.was) in
    record { number = rw r w.0; few = search rules; space = w.1 }

pub returns-in_err-first : goal.returns-in_err-first
returns-in_err-first c =
    let a = c.args in
    let r : c.from_residual-in_err-first.result ≡ Err c.in_err-first.field-0.0 = search rules in
    let w = cut_first a.sheet.now a.k a.out.now (sym c.read_sheet.ensures ∙ c.in_ok-table.was) in
    let f = first_refused c.in_ok-table.table a.k a.out.now (sym c.cut_table.ensures ∙ c.in_err-first.was) in
    record { number = rw r (f.0 ∙ w.0); few = search rules; space = f.1 ∙ w.1 }

pub returns : goal.returns
returns c =
    let a = c.args in
    let w = cut_first a.sheet.now a.k a.out.now (sym c.read_sheet.ensures ∙ c.in_ok-table.was) in
    let f = first_written c.in_ok-table.table a.k a.out.now (sym c.cut_table.ensures ∙ c.in_ok-first.was) in
    let told = sheet_told c.in_ok-first.first a.out.now c.write_sheet.result c.write_sheet.ensures.0 in
    record { number = told.0 ∙ f.0 ∙ w.0; few = told.1; space = c.write_sheet.ensures.1 ∙ f.1 ∙ w.1 }
