-- By computation. Assumes nothing.
use Rattle.tasks.specs.Table.{breaks}
use borrow.Author.Rules.{rules}
use Rattle.tasks.proofs.table.breaks.Goals as goal

pub returns : goal.returns
unfolding breaks
returns c = search rules
