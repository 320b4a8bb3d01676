-- By cases on whether the entry is one of the first n. Assumes nothing.
use Rattle.tasks.specs.Table.{fault_at}
use borrow.Author.Tests.{lt-ltb, le-ltb}
use Rattle.tasks.proofs.table.Table.fault_at.Goals as goal

pub returns-then-i-n : goal.returns-then-i-n
unfolding fault_at
returns-then-i-n c = rw (lt-ltb _ _ (rw c.from-n.ensures at c.if-i-n.true), c.breaks.ensures, c.from-work.ensures, c.from-deadline.ensures, c.from-gap.ensures)

pub returns : goal.returns
unfolding fault_at
returns c = rw (le-ltb _ _ (rw c.from-n.ensures at c.if-i-n.false), c.from-work.ensures, c.from-deadline.ensures, c.from-gap.ensures)
