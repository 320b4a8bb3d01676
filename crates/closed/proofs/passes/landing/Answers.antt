-- Case by case. Assumes nothing.
use Prim.Native.Nat.{min}
use mathlib.Core.Path.{sym, ap, ◌∙◌}
use Rattle.lists.specs.Lists.{pick}
use Rattle.closed.proofs.PassLaws.{landing_now, landing_far}
use Rattle.closed.proofs.passes.landing.Goals as goal

pub returns-then-released : goal.returns-then-released
returns-then-released c =
    let a = c.args in
    sym (ap (λ b. pick b a.top 0) c.if-released.true) ∙ landing_now a.top a.released c.if-gap-eq0.true

pub returns-else-released : goal.returns-else-released
returns-else-released c =
    let a = c.args in
    sym (ap (λ b. pick b a.top 0) c.if-released.false) ∙ landing_now a.top a.released c.if-gap-eq0.true

pub returns : goal.returns
returns c =
    let a = c.args in
    c.min.ensures ∙ ap (λ x. min x a.top) c.from.ensures ∙ landing_far a.top a.gap a.released c.if-gap-eq0.false
