use Rattle.std.proofs.Common.{rules}
use Rattle.lists.proofs.Made.{made}
use Rattle.tasks.specs.Tick.{bit}
use Rattle.service.proofs.totals.named.Goals as goal

pub returns : goal.returns
returns c = made _ (bit c.args.mask) (λ i y q l k. search rules) c.from_fn.ensures.items
