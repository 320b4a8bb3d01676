-- Policy, m or n is refused, or the practice table is written. Assumes nothing.
use mathlib.Core.Path.{◌≡◌, sym, ◌∙◌}
use Rattle.std.proofs.Common.{rules}
use Rattle.std.specs.Prelude.{Err}
use Rattle.practice.specs.Practice.{practice_table}
use Rattle.practice.proofs.Theorems.{answer_made}
use Rattle.ronchhek.proofs.TableLaws.{sheet_told}
use Rattle.ronchhek.proofs.PracticeLaws.{number_refused, practice_written}
use Rattle.ronchhek.proofs.practices.write_practice.Goals as goal

pub returns-in_err-table : goal.returns-in_err-table
returns-in_err-table c =
    let a = c.args in
    let r : c.from_residual.result ≡ Err c.in_err-table.field-0.0 = search rules in
    let w = number_refused a.policy a.m a.n a.seed a.out.now (sym c.practice_table.ensures ∙ c.in_err-table.was) in
    record { number = rw r w.0; few = search rules; space = w.1 }

pub returns : goal.returns
returns c =
    let a = c.args in
    let table_is = answer_made a.policy a.m a.n a.seed (sym c.practice_table.ensures ∙ c.in_ok-table.was) in
    let written = rw table_is at c.write_sheet.ensures in
    let told = sheet_told (practice_table a.policy a.m a.n a.seed) a.out.now c.write_sheet.result written.0 in
    let w = practice_written a.policy a.m a.n a.seed a.out.now in
    record { number = told.0 ∙ w.0; few = told.1; space = written.1 ∙ w.1 }
