-- By computation. Assumes nothing.
use Rattle.practice.specs.Practice.{drawn}
use borrow.Author.Rules.{rules}
use Rattle.practice.proofs.draws.drawn.Goals as goal

pub returns : goal.returns
unfolding drawn
returns c = search rules
