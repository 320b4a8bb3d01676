use Rattle.tasks.specs.Ticker.{old_word}
use borrow.Author.Rules.{rules}
use Rattle.tasks.proofs.ticker.old_word.Goals as goal

pub returns : goal.returns
unfolding old_word
returns c = search rules
