use mathlib.Core.Path.{◌≡◌, sym, ap, ◌∙◌}
use Rattle.std.proofs.Common.{rules}
use Rattle.std.specs.Prelude.{Err}
use Rattle.session.specs.Session.{outcome}
use Rattle.session_bytes.proofs.CallLaws.{table_told, not_next}
use Rattle.session_bytes.proofs.calls.call_table.Goals as goal

pub returns-in_err-step : goal.returns-in_err-step
returns-in_err-step c =
    let a = c.args in
    let r : c.from_residual.result ≡ Err c.in_err-step.field-0.0 = search rules in
    table_told a.t a.space.now a.call (c.call-called.ensures ∙ ap (λ x. outcome a.t x a.call) c.read_session.ensures) (c.in_err-step.was ∙ sym r) (rw r)

pub returns-in-Next : goal.returns-in-Next
returns-in-Next c =
    let a = c.args in
    table_told a.t a.space.now a.call (c.call-called.ensures ∙ ap (λ x. outcome a.t x a.call) c.read_session.ensures) c.in_ok-step.was
    (rw c.in-Next.is c.write_session.ensures)

pub returns-in_default : goal.returns-in_default
returns-in_default c =
    let a = c.args in
    table_told a.t a.space.now a.call (c.call-called.ensures ∙ ap (λ x. outcome a.t x a.call) c.read_session.ensures) c.in_ok-step.was
    (not_next _ _ _ c.in_default.not-Next)
