use Rattle.std.proofs.Common.{rules, arith, ◌∙◌}
use Rattle.lists.proofs.Turns.{count_le}
use Rattle.cores.specs.Walk.{leads, rank}
use Rattle.cores.proofs.walk.count_before.Goals as goal

pub returns : goal.returns
unfolding rank leads
returns c =
    let p = leads c.args.places c.args.i in
    let e = c.from.ensures in
    let f = c.count_places.ensures p (λ i b h k. search rules) in
    (e ∙ f, omega (arith, e, f, count_le p 8))
