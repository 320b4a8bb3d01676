use Rattle.std.proofs.Common.{rules, get_or, ◌+◌}
use Rattle.lists.proofs.Made.{made}
use Rattle.ticks.proofs.bytes_from.Goals as goal

pub returns : goal.returns
returns c = made _ (λ i. get_or c.args.b.now (c.args.at + i) 0) (λ i y q l k. search rules) c.from_fn.ensures.items
