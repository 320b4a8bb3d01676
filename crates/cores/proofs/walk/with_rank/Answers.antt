use Rattle.std.proofs.Common.{rules, get_or, eqb, ◌&&◌}
use Rattle.lists.specs.Lists.{pick}
use Rattle.lists.proofs.Made.{made}
use Rattle.cores.proofs.walk.with_rank.Goals as goal

pub returns : goal.returns
returns c =
    let a = c.args in
    made _ (λ i. pick (eqb (get_or a.ranks i 0) a.rank && eqb (get_or a.run i 0) 0) 1 (get_or a.run i 0)) (λ i y q l k. search rules) c.from_fn.ensures.items
