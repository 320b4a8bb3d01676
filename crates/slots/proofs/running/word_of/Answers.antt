-- By computation. Assumes nothing.
use Rattle.slots.specs.Running.{word_of}
use borrow.Author.Rules.{rules}
use Rattle.slots.proofs.running.word_of.Goals as goal

pub returns : goal.returns
unfolding word_of
returns c = search rules
