use Rattle.std.proofs.Common.{rules}
use lib.Dec.{ltb}
use Rattle.lists.specs.Lists.{pick}
use Rattle.lists.proofs.Made.{made}
use Rattle.tasks.proofs.ticker.limits.Goals as goal

pub returns : goal.returns
returns c = made _ (λ i. pick (ltb i c.args.t.n) 256 0) (λ i y q l k. search rules) c.from_fn.ensures.items
