use Rattle.std.proofs.Common.{rules, get_or}
use Rattle.lists.proofs.Made.{made}
use Rattle.tasks.specs.Ticker.{place_in, places_in}
use Rattle.tasks.proofs.ticker.places.Goals as goal

pub returns : goal.returns
unfolding places_in
returns c =
    let a = c.args in
    made _ (λ i. place_in (get_or a.bygap i 0) (get_or a.bywork i 0) (get_or a.kept i 0) (get_or a.base i 0) (get_or a.v i 0)) (λ i y q l k. search rules) c.from_fn.ensures.items
