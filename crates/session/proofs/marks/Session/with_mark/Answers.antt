use mathlib.Core.Path.{◌≡◌, sym, ap, ◌∙◌}
use Rattle.std.proofs.Common.{rules}
use Rattle.std.specs.Prelude.{Err}
use Rattle.tasks.specs.Refusals.{unless_refused}
use Rattle.session.specs.Session.{session_fault, beyond, set_refusal, marked}
use Rattle.session.proofs.CallLaws.{refused_first, accepted_first}
use Rattle.session.proofs.marks.Session.with_mark.Goals as goal

pub returns-in_err-check : goal.returns-in_err-check
unfolding set_refusal
returns-in_err-check c =
    let a = c.args in
    let r : c.from_residual.result ≡ Err c.in_err-check.field-0.0 = search rules in
    r ∙ refused_first (session_fault a.t a.self) _ tt _ (sym c.check.ensures ∙ c.in_err-check.was)

pub returns : goal.returns
unfolding set_refusal
returns c =
    let a = c.args in
    let fine = accepted_first (session_fault a.t a.self) (beyond a.k) tt (sym c.check.ensures ∙ c.in_ok-check.was) in
    c.marked.ensures ∙ ap (λ n. unless_refused n (marked a.self a.k)) fine
