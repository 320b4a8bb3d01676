use Rattle.std.proofs.Common.{rules}
use Rattle.lists.proofs.Made.{made}
use Rattle.tasks.specs.Ticker.{base_at}
use Rattle.tasks.proofs.ticker.bases.Goals as goal

pub returns : goal.returns
unfolding base_at
returns c = made _ (base_at c.args.t) (λ i y q l k. search rules) c.from_fn.ensures.items
