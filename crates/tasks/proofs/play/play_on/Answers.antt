-- By what is judged first. Assumes nothing.
use mathlib.Core.Path.{sym, ap, ◌∙◌}
use Rattle.tasks.specs.Table.{table_fault}
use Rattle.tasks.specs.declared.play.ReplayAnswer.TheVariants.{Refused}
use Rattle.tasks.proofs.Refusals.{refused_unless, accepted_unless}
use Rattle.tasks.proofs.Played.{from_names, from_fault, from_improper, from_played}
use Rattle.tasks.proofs.play.play_on.Goals as goal

pub returns-in-Err : goal.returns-in-Err
returns-in-Err c =
    let a = c.args in
    let f = refused_unless (table_fault a.t) tt (sym c.check.ensures ∙ c.in-Err.is) in
    from_names a.t a.s a.masks.now (ap (λ r. record { answer = Refused r 0; state = a.s }) (sym f.1) ∙ from_fault a.t a.s 0 a.masks.now f.0)

pub returns-then-improper : goal.returns-then-improper
returns-then-improper c =
    let a = c.args in
    let valid = (accepted_unless (table_fault a.t) tt (sym c.check.ensures ∙ c.in_default.is)).0 in
    from_names a.t a.s a.masks.now (from_improper a.t a.s 0 a.masks.now valid (sym c.improper.ensures ∙ c.if-improper.true))

pub invariant_of-play : goal.invariant_of-play
invariant_of-play c =
    record { sound = (accepted_unless (table_fault c.args.t) tt (sym c.check.ensures ∙ c.in_default.is)).0 }

pub returns : goal.returns
returns c =
    let a = c.args in
    let valid = (accepted_unless (table_fault a.t) tt (sym c.check.ensures ∙ c.in_default.is)).0 in
    from_names a.t a.s a.masks.now
    (c.play.ensures ∙ from_played a.t a.s 0 a.masks.now valid (sym c.improper.ensures ∙ c.if-improper.false))
