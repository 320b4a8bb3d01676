-- The judge of tables says what the first three numbers are refused for. Assumes nothing.
use mathlib.Core.Path.{◌≡◌, sym, ap, ◌∙◌}
use Rattle.std.proofs.Common.{rules}
use Rattle.std.specs.Prelude.{Ok, Err}
use Rattle.tasks.specs.Table.{table_fault}
use Rattle.tasks.proofs.Refusals.{accepted_unless}
use Rattle.practice.proofs.Theorems.{practice_refused, practice_made}
use Rattle.practice.proofs.made.practice_table.Goals as goal

pub returns-in_err-check : goal.returns-in_err-check
returns-in_err-check c =
    let a = c.args in
    let e = rw c.draw_table-table.ensures at (sym c.check.ensures ∙ c.in_err-check.was) in
    let r : c.from_residual.result ≡ Err c.in_err-check.field-0.0 = search rules in
    r ∙ practice_refused a.policy a.m a.n a.seed e

pub returns : goal.returns
returns c =
    let a = c.args in
    let made = c.draw_table-table.ensures in
    let fine = (accepted_unless (table_fault c.draw_table-table.result) tt (sym c.check.ensures ∙ c.in_ok-check.was)).0 in
    ap Ok made ∙ practice_made a.policy a.m a.n a.seed (rw made at fine)
