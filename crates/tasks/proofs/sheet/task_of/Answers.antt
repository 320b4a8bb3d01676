-- A task that keeps the rule has numbers of one byte. Assumes nothing.
use Rattle.tasks.proofs.Tables.{fit_task}
use Rattle.tasks.specs.Sheet.{task_of}
use mathlib.Core.Path.{sym, ◌∙◌}
use native.Mathlib.Omega.{arith}
use Rattle.tasks.proofs.sheet.task_of.Goals as goal

pub returns-then-breaks : goal.returns-then-breaks
unfolding task_of
returns-then-breaks c = rw (sym c.breaks.ensures ∙ c.if-breaks.true)

pub overflow_cast-task : goal.overflow_cast-task
overflow_cast-task c = let f = fit_task (sym c.breaks.ensures ∙ c.if-breaks.false) in omega (arith, f.order, f.close, f.short)

pub overflow_cast-task-2 : goal.overflow_cast-task-2
overflow_cast-task-2 c = let f = fit_task (sym c.breaks.ensures ∙ c.if-breaks.false) in omega (arith, f.close, f.short)

pub overflow_cast-task-3 : goal.overflow_cast-task-3
overflow_cast-task-3 c = let f = fit_task (sym c.breaks.ensures ∙ c.if-breaks.false) in omega (arith, f.short)

pub returns : goal.returns
unfolding task_of
returns c = let e = sym c.breaks.ensures ∙ c.if-breaks.false in rw e
