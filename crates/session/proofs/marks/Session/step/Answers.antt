use mathlib.Core.Path.{◌≡◌, ap, ◌∙◌}
use Rattle.std.specs.Prelude.{Ok}
use Rattle.tasks.specs.declared.tick.Step.{Step}
use Rattle.session.specs.Session.{stepped}
use Rattle.session.proofs.marks.Session.step.Goals as goal

pub returns-in-Ok-Next : goal.returns-in-Ok-Next
unfolding stepped
returns-in-Ok-Next c =
    let e : c.step_tick-ticked.result.answer ≡ Ok Step.Next = c.in-Ok-Next.is ∙ ap Ok (rw c.in-Ok-Next.is at c.in-Ok-Next.field-0-is) in
    rw (← c.step_tick-ticked.ensures, e)

pub returns-in-Ok-Missed : goal.returns-in-Ok-Missed
unfolding stepped
returns-in-Ok-Missed c =
    let e : c.step_tick-ticked.result.answer ≡ Ok Step.Missed = c.in-Ok-Missed.is ∙ ap Ok (rw c.in-Ok-Missed.is at c.in-Ok-Missed.field-0-is) in
    rw (← c.step_tick-ticked.ensures, e)

pub returns-in-Err : goal.returns-in-Err
unfolding stepped
returns-in-Err c = rw (← c.step_tick-ticked.ensures, c.in-Err.is)
