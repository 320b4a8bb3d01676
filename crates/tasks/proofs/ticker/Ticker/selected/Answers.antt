use Rattle.std.proofs.Common.{rules}
use Rattle.lists.proofs.Made.{made}
use Rattle.tasks.specs.Ticker.{selected}
use Rattle.tasks.proofs.ticker.Ticker.selected.Goals as goal

pub returns : goal.returns
unfolding selected
returns c =
    let a = c.args in
    made _ (selected a.self.bits a.mask a.old a.new) (λ i y q l k. search rules) c.from_fn.ensures.items
