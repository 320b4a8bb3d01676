-- The low twenty bits of the word. Assumes nothing.
use Rattle.slots.specs.Running.{link_at}
use borrow.Author.Rules.{rules}
use Rattle.slots.proofs.read.link_of.Goals as goal

pub returns : goal.returns
unfolding link_at
returns c = search rules
