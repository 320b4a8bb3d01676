use Rattle.std.proofs.Common.{rules}
use Rattle.lists.specs.Lists.{pick}
use Rattle.lists.proofs.Made.{made}
use Rattle.cores.specs.Walk.{under}
use Rattle.cores.proofs.walk.below.Goals as goal

pub returns : goal.returns
unfolding under
returns c = made _ (λ i. pick (under c.args.places c.args.x i) 1 0) (λ i y q l k. search rules) c.from_fn.ensures.items
