-- By what is judged first. Assumes nothing.
use Rattle.std.proofs.Common.{rules}
use mathlib.Core.Path.{sym, ◌∙◌}
use Rattle.tasks.specs.Table.{table_fault}
use Rattle.tasks.specs.declared.refusal.Refusal.TheVariants.{Improper, Mask}
use Rattle.tasks.proofs.Refusals.{refused_at, unless_none, refused_unless, accepted_unless}
use Rattle.tasks.proofs.Answered.{refusal_table, refusal_state, refused_mask, refusal_none}
use Rattle.tasks.proofs.state.State.check.Goals as goal

pub returns-in_err-check : goal.returns-in_err-check
returns-in_err-check c =
    let a = c.args in
    let e = sym c.check.ensures ∙ c.in_err-check.was in
    rw (refusal_table a.t a.self a.mask (refused_unless (table_fault a.t) tt e).0, e) (search rules)

pub returns-then-improper : goal.returns-then-improper
returns-then-improper c =
    let a = c.args in
    let valid = (accepted_unless (table_fault a.t) tt (sym c.check.ensures ∙ c.in_ok-check.was)).0 in
    refused_at Improper tt (sym (refusal_state a.t a.self a.mask valid (sym c.improper.ensures ∙ c.if-improper.true)))

pub returns-then-illegal : goal.returns-then-illegal
returns-then-illegal c =
    let a = c.args in
    let valid = (accepted_unless (table_fault a.t) tt (sym c.check.ensures ∙ c.in_ok-check.was)).0 in
    refused_at Mask tt
    (sym (refused_mask a.t a.self a.mask valid (sym c.improper.ensures ∙ c.if-improper.false) (sym c.illegal.ensures ∙ c.if-illegal.true)))

pub returns : goal.returns
returns c =
    let a = c.args in
    let valid = (accepted_unless (table_fault a.t) tt (sym c.check.ensures ∙ c.in_ok-check.was)).0 in
    unless_none tt
    (sym (refusal_none a.t a.self a.mask valid (sym c.improper.ensures ∙ c.if-improper.false) (sym c.illegal.ensures ∙ c.if-illegal.false)))
