use mathlib.Core.Path.{◌≡◌, refl, sym, ◌∙◌}
use Rattle.std.proofs.Common.{rules}
use Rattle.std.specs.Prelude.{Err}
use Rattle.lists.proofs.Picks.{pick_yes, pick_no}
use Rattle.tasks.specs.Table.{table_fault}
use Rattle.tasks.specs.declared.refusal.Refusal.TheVariants.{Improper}
use Rattle.tasks.proofs.Refusals.{refused_at, unless_none}
use Rattle.session.specs.Session.{session_fault}
use Rattle.session.proofs.CallLaws.{refused_first, accepted_first}
use Rattle.session.proofs.marks.Session.check.Goals as goal

pub returns-in_err-check : goal.returns-in_err-check
unfolding session_fault
returns-in_err-check c =
    let r : c.from_residual.result ≡ Err c.in_err-check.field-0.0 = search rules in
    r ∙ refused_first (table_fault c.args.t) _ tt tt (sym c.check.ensures ∙ c.in_err-check.was)

pub returns-then-improper : goal.returns-then-improper
unfolding session_fault
returns-then-improper c =
    let fine = accepted_first (table_fault c.args.t) _ tt (sym c.check.ensures ∙ c.in_ok-check.was) in
    refused_at Improper tt (pick_yes 0 (sym c.improper.ensures ∙ c.if-improper.true) ∙ fine)

pub returns : goal.returns
unfolding session_fault
returns c =
    let fine = accepted_first (table_fault c.args.t) _ tt (sym c.check.ensures ∙ c.in_ok-check.was) in
    unless_none tt (pick_no 13 (sym c.improper.ensures ∙ c.if-improper.false) refl ∙ fine)
