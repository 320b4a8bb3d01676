-- The sheet is refused, the space is too short, or the table is written. Assumes nothing.
use mathlib.Core.Path.{◌≡◌, sym, ap, ◌∙◌}
use mathlib.Core.List.{◌++◌}
use lib.ListN.{drop}
use Rattle.std.proofs.Common.{rules}
use Rattle.std.specs.Prelude.{Err}
use Rattle.ronchhek.proofs.TableLaws.{read_refused, read_short, read_done}
use Rattle.ronchhek.proofs.tables.read_table.Goals as goal

pub returns-in_err-t : goal.returns-in_err-t
returns-in_err-t c =
    let a = c.args in
    let r : c.from_residual.result ≡ Err c.in_err-t.field-0.0 = search rules in
    let w = read_refused a.sheet.now a.table.now (sym c.read_sheet.ensures ∙ c.in_err-t.was) in
    record { number = rw r w.0; few = search rules; space = w.1 }

pub returns-in_default : goal.returns-in_default
returns-in_default c =
    let a = c.args in
    let w = read_short a.sheet.now a.table.now (sym c.read_sheet.ensures ∙ c.in_ok-t.was) c.in_default.ensures.cases in
    record { number = w.0; few = search rules; space = w.1 }

pub returns : goal.returns
returns c =
    let a = c.args in
    let w = read_done a.sheet.now a.table.now (sym c.read_sheet.ensures ∙ c.in_ok-t.was) c.in-Some.ensures.cases.enough in
    record { number = w.0; few = search rules; space = ap (λ l. l ++ drop 27 a.table.now) c.put_table.ensures ∙ w.1 }
