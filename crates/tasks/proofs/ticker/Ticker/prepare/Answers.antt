use Rattle.tasks.specs.Ticker.{prepared_by}
use Rattle.tasks.proofs.ticker.Ticker.prepare.Goals as goal

pub returns : goal.returns
unfolding prepared_by
returns c = λ k. record { place = c.places.ensures k; word = c.old_words.ensures k }
