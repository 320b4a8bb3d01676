use Rattle.std.proofs.Common.{rules, get_or, ◌+◌, ◌*◌}
use Rattle.lists.proofs.Made.{made}
use Rattle.ronchhek.proofs.tables.column.Goals as goal

pub returns : goal.returns
returns c = made _ (λ i. get_or c.args.b.now (c.args.at + 3 * i) 0) (λ i y q l k. search rules) c.from_fn.ensures.items
