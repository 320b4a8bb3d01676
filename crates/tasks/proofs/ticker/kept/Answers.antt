use Rattle.std.proofs.Common.{rules, ap, get_or, ◌∙◌}
use Rattle.lists.specs.Lists.{eight, pick}
use Rattle.lists.proofs.Made.{made}
use Rattle.tasks.specs.Ticker.{kept_at}
use Rattle.tasks.proofs.ticker.kept.Goals as goal

pub returns : goal.returns
unfolding kept_at
returns c =
    let t = c.args.t in
    made _ (λ i. pick c.keeps_running-stays.result (get_or t.work i 0) 0) (λ i y q l k. search rules) c.from_fn.ensures.items
    ∙ ap (λ b. eight (λ i. pick b (get_or t.work i 0) 0)) c.keeps_running-stays.ensures
