-- A refusal with the state given, or the state after the steps. Assumes nothing.
use mathlib.Core.Path.{◌≡◌, sym, ap, ◌∙◌}
use native.Mathlib.Omega.{arith}
use Rattle.std.specs.Prelude.{Ok, Err}
use Rattle.tasks.specs.Tick.{answered, refusal}
use Rattle.tasks.specs.declared.tick.Step.TheVariants.{Next, Missed}
use Rattle.tasks.proofs.Refusals.{refused_unless, accepted_unless}
use Rattle.tasks.proofs.Answered.{ticked_refused, ticked_missed, ticked_next}
use Rattle.tasks.proofs.state.State.tick.Goals as goal

pub returns-in-Err : goal.returns-in-Err
returns-in-Err c =
    let a = c.args in
    let f = refused_unless (refusal a.t a.self a.mask) tt (sym c.check.ensures ∙ c.in-Err.is) in
    c.answered.ensures ∙ ap (λ r. answered (Err r) a.self) (sym f.1) ∙ ticked_refused a.t a.self a.mask f.0

pub returns-then-missed : goal.returns-then-missed
returns-then-missed c =
    let a = c.args in
    let e = c.advance-next.ensures in
    let none : refusal a.t a.self a.mask ≡ 0 = (accepted_unless (refusal a.t a.self a.mask) tt (sym c.check.ensures ∙ c.in_default.is)).0 in
    let miss = sym c.missed.ensures ∙ c.if-missed.true in
    c.answered-then-missed.ensures ∙ ap (answered (Ok Missed)) e ∙ ticked_missed a.t a.self a.mask (omega arith) (rw e at miss)

pub returns : goal.returns
returns c =
    let a = c.args in
    let e = c.advance-next.ensures in
    let none : refusal a.t a.self a.mask ≡ 0 = (accepted_unless (refusal a.t a.self a.mask) tt (sym c.check.ensures ∙ c.in_default.is)).0 in
    let miss = sym c.missed.ensures ∙ c.if-missed.false in
    c.answered-2.ensures ∙ ap (answered (Ok Next)) e ∙ ticked_next a.t a.self a.mask (omega arith) (rw e at miss)
