use Rattle.std.proofs.Common.{rules}
use Rattle.lists.proofs.Made.{made}
use Rattle.lists.proofs.Turns.{bool_byte_lem}
use Rattle.service.specs.Raised.{raised_at}
use Rattle.service.proofs.totals.raised.Goals as goal

pub returns : goal.returns
unfolding raised_at
returns c =
    let a = c.args in
    made _ (raised_at a.numbers a.tasks) (λ i y q l k. search (rules, bool_byte_lem)) c.from_fn.ensures.items
