use mathlib.Core.Path.{◌≡◌, sym, ap, ◌∙◌}
use Rattle.std.proofs.Common.{rules}
use Rattle.std.specs.Prelude.{Ok, Err}
use Rattle.std.specs.Option.{unwrap_or}
use Rattle.tasks.proofs.Refusals.{refused_same, accepted_unless, unless_none}
use Rattle.session.specs.Session.{mark_at, first_of, session_fault, beyond, never_set, return_refusal, moved}
use Rattle.session.proofs.CallLaws.{refused_first, accepted_first}
use Rattle.session.proofs.marks.Session.at_mark.Goals as goal

pub returns-in_err-check : goal.returns-in_err-check
unfolding return_refusal
returns-in_err-check c =
    let a = c.args in
    let r : c.from_residual.result ≡ Err c.in_err-check.field-0.0 = search rules in
    r ∙ refused_first (session_fault a.t a.self) _ tt _ (sym c.check.ensures ∙ c.in_err-check.was)

pub returns-in_err-present : goal.returns-in_err-present
unfolding return_refusal
returns-in_err-present c =
    let a = c.args in
    let r : c.from_residual-in_err-present.result ≡ Err c.in_err-present.field-0.0 = search rules in
    let fine = accepted_first (session_fault a.t a.self) (first_of (beyond a.k) (never_set a.self a.k)) tt (sym c.check.ensures ∙ c.in_ok-check.was) in
    r ∙ refused_same _ _ fine (sym c.mark.ensures ∙ c.in_err-present.was)

pub returns : goal.returns
unfolding return_refusal
returns c =
    let a = c.args in
    let n = first_of (beyond a.k) (never_set a.self a.k) in
    let fine = accepted_first (session_fault a.t a.self) n tt (sym c.check.ensures ∙ c.in_ok-check.was) in
    let f = accepted_unless n (unwrap_or (mark_at a.self a.k) a.self.present) (sym c.mark.ensures ∙ c.in_ok-present.was) in
    ap (λ s. Ok (moved a.self s)) f.1 ∙ unless_none _ (sym f.0 ∙ fine)
