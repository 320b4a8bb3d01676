use mathlib.Core.Path.{◌≡◌, sym, ap, ◌∙◌}
use native.Mathlib.Omega.{arith}
use lib.ListN.{get_or}
use Rattle.std.proofs.Common.{rules}
use Rattle.std.specs.Prelude.{None, Err, ok_or}
use Rattle.std.specs.Option.{unwrap_or}
use Rattle.tasks.specs.Refusals.{unless_refused}
use Rattle.tasks.specs.declared.refusal.Refusal.TheVariants.{MarkUnset}
use Rattle.session.specs.Session.{mark_at, beyond, never_set}
use Rattle.session.proofs.CallLaws.{refused_first, accepted_first}
use Rattle.session.proofs.MarkLaws.{place_at, stored_or}
use Rattle.session.proofs.marks.Session.mark.Goals as goal

pub returns-in_err-mark : goal.returns-in_err-mark
returns-in_err-mark c =
    let r : c.from_residual.result ≡ Err c.in_err-mark.field-0.0 = search rules in
    r ∙ refused_first (beyond c.args.k) _ _ _ (sym c.place.ensures ∙ c.in_err-mark.was)

pub offset_bounds-self-branch : goal.offset_bounds-self-branch
offset_bounds-self-branch c = let p = place_at c.args.k (sym c.place.ensures ∙ c.in_ok-mark.was) in omega arith

pub bounds-self-branch : goal.bounds-self-branch
bounds-self-branch c = (place_at c.args.k (sym c.place.ensures ∙ c.in_ok-mark.was)).2

pub returns : goal.returns
returns c =
    let x = c.args.self in
    let k = c.args.k in
    let e = sym c.place.ensures ∙ c.in_ok-mark.was in
    let p = place_at k e in
    c.ok_or.ensures.value ∙ ap (λ i. ok_or (get_or x.marks i None) MarkUnset) p.1 ∙ stored_or x k p.0
    ∙ ap (λ n. unless_refused n (unwrap_or (mark_at x k) x.present)) (accepted_first (beyond k) (never_set x k) _ e)
