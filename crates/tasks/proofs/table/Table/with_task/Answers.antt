-- By computation. Assumes nothing.
use Rattle.tasks.specs.Sheet.{with_task}
use borrow.Author.Rules.{rules}
use Rattle.tasks.proofs.table.Table.with_task.Goals as goal

pub returns : goal.returns
unfolding with_task
returns c = search rules
