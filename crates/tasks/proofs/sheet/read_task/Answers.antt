-- Three numbers, one after the other; the first that is refused ends the task. Assumes nothing.
use Rattle.std.proofs.Common.{rules}
use Rattle.tasks.specs.Sheet.{task_at}
use mathlib.Core.Path.{sym, ◌∙◌}
use Rattle.tasks.proofs.sheet.read_task.Goals as goal

pub returns-in_err-work : goal.returns-in_err-work
unfolding task_at
returns-in_err-work c = let e = sym c.read_number.ensures ∙ c.in_err-work.was in rw e (search rules)

pub returns-in_err-deadline : goal.returns-in_err-deadline
unfolding task_at
returns-in_err-deadline c =
    let e = sym c.read_number.ensures ∙ c.in_ok-work.was in
    let f = sym c.read_number-2.ensures ∙ c.in_err-deadline.was in
    rw (e, f) (search rules)

pub returns-in_err-gap : goal.returns-in_err-gap
unfolding task_at
returns-in_err-gap c =
    let e = sym c.read_number.ensures ∙ c.in_ok-work.was in
    let f = sym c.read_number-2.ensures ∙ c.in_ok-deadline.was in
    let g = sym c.read_number-3.ensures ∙ c.in_err-gap.was in
    rw (e, f, g) (search rules)

pub returns : goal.returns
unfolding task_at
returns c =
    let e = sym c.read_number.ensures ∙ c.in_ok-work.was in
    let f = sym c.read_number-2.ensures ∙ c.in_ok-deadline.was in
    let g = sym c.read_number-3.ensures ∙ c.in_ok-gap.was in
    rw (e, f, g) c.task_of.ensures
