-- The table is judged, then k. Assumes nothing.
use mathlib.Core.Path.{◌≡◌, sym, ap, ◌∙◌}
use Rattle.std.proofs.Common.{rules, arith}
use Rattle.std.proofs.lemmas.Grind.{common_steps}
use Rattle.std.specs.Prelude.{Ok, Err}
use Rattle.tasks.specs.Table.{table_fault}
use Rattle.tasks.proofs.Refusals.{accepted_unless}
use Rattle.cut.proofs.TableLaws.{answer_fault, answer_outside, answer_cut}
use Rattle.cut.proofs.tables.cut_table.Goals as goal

pub returns-in_err-check : goal.returns-in_err-check
returns-in_err-check c =
    let r : c.from_residual.result ≡ Err c.in_err-check.field-0.0 = search rules in
    r ∙ answer_fault c.args.t c.args.k (sym c.check.ensures ∙ c.in_err-check.was)

pub returns-then-not-contains : goal.returns-then-not-contains
returns-then-not-contains c =
    let a = c.args in
    let fine = (accepted_unless (table_fault a.t) tt (sym c.check.ensures ∙ c.in_ok-check.was)).0 in
    answer_outside a.t a.k fine (search rules)

pub returns : goal.returns
returns c =
    let a = c.args in
    let fine = (accepted_unless (table_fault a.t) tt (sym c.check.ensures ∙ c.in_ok-check.was)).0 in
    ap Ok c.first_tasks.ensures ∙ answer_cut a.t a.k fine (grind (arith, common_steps))
