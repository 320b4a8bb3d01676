use Rattle.std.proofs.Common.{rules, get_or}
use Rattle.lists.proofs.Made.{made}
use Rattle.tasks.specs.Ticker.{old_word}
use Rattle.tasks.proofs.ticker.old_words.Goals as goal

pub returns : goal.returns
returns c = made _ (λ i. old_word (get_or c.args.v i 0)) (λ i y q l k. search rules) c.from_fn.ensures.items
