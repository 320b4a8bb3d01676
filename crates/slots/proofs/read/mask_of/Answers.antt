-- By computation. Assumes nothing.
use Rattle.slots.specs.Layout.{mask_at}
use borrow.Author.Rules.{rules}
use Rattle.slots.proofs.read.mask_of.Goals as goal

pub returns : goal.returns
unfolding mask_at
returns c = search rules
