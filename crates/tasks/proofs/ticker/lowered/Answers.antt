use Rattle.std.proofs.Common.{rules, ap, get_or, ◌-◌, ◌∙◌}
use Rattle.lists.specs.Lists.{pick}
use Rattle.lists.proofs.Fill.{eight_same}
use Rattle.lists.proofs.Made.{made}
use Rattle.cores.specs.Walk.{taken}
use Rattle.cores.proofs.WalkLaws.{served_at}
use Rattle.tasks.specs.Ticker.{lowered}
use Rattle.tasks.proofs.ticker.lowered.Goals as goal

pub returns : goal.returns
unfolding lowered
returns c =
    let a = c.args in
    let run = c.assign_quickly-run.result in
    made _ (λ i. get_or a.words i 0 - get_or run i 0) (λ i y q l k. search rules) c.from_fn.ensures.items
    ∙ eight_same _ (λ i. get_or a.words i 0 - pick (taken a.places a.m i) 1 0)
    (λ i b. ap (λ x. get_or a.words i 0 - x) (served_at a.places a.m c.assign_quickly-run.ensures i b))
