use mathlib.Core.Path.{◌≡◌, refl, sym, ap, ◌∙◌}
use native.Mathlib.Omega.{arith}
use lib.ListN.{set}
use Rattle.std.proofs.Common.{rules}
use Rattle.std.specs.Prelude.{Some, Ok, Err}
use Rattle.tasks.proofs.Refusals.{refused_same, accepted_unless, unless_none}
use Rattle.session.specs.Session.{empty, beyond, marked}
use Rattle.session.proofs.MarkLaws.{length_mapped, place_at, stores_one}
use Rattle.session.proofs.marks.Session.marked.Goals as goal

pub returns-in_err-i : goal.returns-in_err-i
returns-in_err-i c =
    let r : c.from_residual.result ≡ Err c.in_err-i.field-0.0 = search rules in
    r ∙ refused_same _ _ refl (sym c.place.ensures ∙ c.in_err-i.was)

pub offset_bounds-x-i : goal.offset_bounds-x-i
offset_bounds-x-i c = let p = place_at c.args.k (sym c.place.ensures ∙ c.in_ok-i.was) in omega arith

pub bounds-x-i : goal.bounds-x-i
bounds-x-i c = (place_at c.args.k (sym c.place.ensures ∙ c.in_ok-i.was)).2

pub returns : goal.returns
unfolding marked
returns c =
    let x = c.args.self in
    let k = c.args.k in
    let e = sym c.place.ensures ∙ c.in_ok-i.was in
    let p = place_at k e in
    ap (λ marks. Ok (record { present = x.present; marks = marks }))
    (ap (λ i. set x.marks i (Some x.present)) p.1 ∙ stores_one empty (Some x.present) x.marks (search (rules, length_mapped)) k p.0)
    ∙ unless_none _ (sym (accepted_unless (beyond k) _ e).0)
