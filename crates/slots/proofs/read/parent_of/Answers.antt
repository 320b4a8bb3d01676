-- By what the four bytes are. Assumes nothing.
use Rattle.slots.specs.Layout.{parent_at}
use borrow.Author.Rules.{rules}
use Rattle.slots.proofs.read.parent_of.Goals as goal

pub returns : goal.returns
unfolding parent_at
returns c = search rules
