-- A bad table is refused, and the list of a valid one is played. Assumes nothing.
use mathlib.Core.Path.{sym, ap, ◌∙◌}
use Rattle.lists.specs.Lists.{eight}
use Rattle.tasks.specs.Table.{table_fault}
use Rattle.tasks.specs.State.{start}
use Rattle.tasks.specs.declared.play.ReplayAnswer.TheVariants.{Refused}
use Rattle.tasks.proofs.Refusals.{refused_unless, accepted_unless}
use Rattle.service.specs.Totals.{account_from}
use Rattle.service.proofs.Balance.{no_totals, account_told}
use Rattle.service.proofs.play.service.Goals as goal

pub returns-in-Err : goal.returns-in-Err
returns-in-Err c =
    let a = c.args in
    let f = refused_unless (table_fault a.t) tt (sym c.check.ensures ∙ c.in-Err.is) in
    account_told a.t a.masks.now
    (c.account_of.ensures
    ∙ rw c.start.ensures
    (ap (λ r. account_from (record { answer = Refused r 0; state = start }) (eight (λ i. 0)) (eight (λ i. 0))) (sym f.1) ∙ no_totals a.t a.masks.now f.0))

pub invariant_of-play : goal.invariant_of-play
invariant_of-play c = record { sound = (accepted_unless (table_fault c.args.t) tt (sym c.check.ensures ∙ c.in_default.is)).0 }

pub returns : goal.returns
returns c = account_told c.args.t c.args.masks.now c.play.ensures
