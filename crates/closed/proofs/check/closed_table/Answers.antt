-- The table is refused, or it is valid and the file is judged. Assumes nothing.
use mathlib.Core.Path.{◌≡◌, sym, ◌∙◌}
use Rattle.std.proofs.Common.{rules}
use Rattle.std.specs.Prelude.{Err}
use Rattle.tasks.specs.Table.{table_fault}
use Rattle.tasks.proofs.Refusals.{accepted_unless}
use Rattle.closed.proofs.AnswerLaws.{judged_refused, table_fault_lem, table_valid}
use Rattle.closed.proofs.check.closed_table.Goals as goal

pub returns-in_err-check : goal.returns-in_err-check
returns-in_err-check c =
    let a = c.args in
    let r : c.from_residual.result ≡ Err c.in_err-check.field-0.0 = search rules in
    rw r (judged_refused _ (table_fault_lem a.file.now a.t (sym c.check.ensures ∙ c.in_err-check.was)))

pub invariant_of-closed_valid : goal.invariant_of-closed_valid
invariant_of-closed_valid c = record { sound = (accepted_unless (table_fault c.args.t) tt (sym c.check.ensures ∙ c.in_ok-check.was)).0 }

pub returns : goal.returns
returns c =
    let a = c.args in
    let fine = (accepted_unless (table_fault a.t) tt (sym c.check.ensures ∙ c.in_ok-check.was)).0 in
    rw (table_valid a.file.now a.t fine) c.closed_valid.ensures
