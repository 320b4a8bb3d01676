-- Each number is refused, or passes its rule and the next is read; the tasks are read with a count of at most 8. Assumes nothing.
use Rattle.std.proofs.Common.{rules}
use Rattle.tasks.proofs.Fields.{field_read}
use Rattle.tasks.specs.Table.{last_policy}
use Rattle.tasks.specs.Sheet.{from_policy}
use Rattle.tasks.specs.declared.refusal.Refusal.TheVariants.{Policy, Processors, TaskCount}
use mathlib.Core.Path.{sym, ◌∙◌}
use native.Mathlib.Omega.{arith}
use Rattle.tasks.proofs.sheet.read_header.Goals as goal

pub overflow_cast-policy : goal.overflow_cast-policy
overflow_cast-policy c =
    omega (arith, (field_read _ _ 0 last_policy Policy (sym c.read_field.ensures ∙ c.in_ok-policy.was)).upto)

pub overflow_cast-m : goal.overflow_cast-m
overflow_cast-m c =
    omega (arith, (field_read _ _ 1 8 Processors (sym c.read_field-2.ensures ∙ c.in_ok-m.was)).upto)

pub overflow_cast-n : goal.overflow_cast-n
overflow_cast-n c =
    omega (arith, (field_read _ _ 1 8 TaskCount (sym c.read_field-3.ensures ∙ c.in_ok-n.was)).upto)

pub read_tasks-requires : goal.read_tasks-requires
read_tasks-requires c =
    omega (arith, (field_read _ _ 1 8 TaskCount (sym c.read_field-3.ensures ∙ c.in_ok-n.was)).upto)

pub returns-in_err-policy : goal.returns-in_err-policy
unfolding from_policy
returns-in_err-policy c = let e = sym c.read_field.ensures ∙ c.in_err-policy.was in rw e (search rules)

pub returns-in_err-m : goal.returns-in_err-m
unfolding from_policy
returns-in_err-m c =
    let e = sym c.read_field.ensures ∙ c.in_ok-policy.was in
    let f = sym c.read_field-2.ensures ∙ c.in_err-m.was in
    rw (e, f) (search rules)

pub returns-in_err-n : goal.returns-in_err-n
unfolding from_policy
returns-in_err-n c =
    let e = sym c.read_field.ensures ∙ c.in_ok-policy.was in
    let f = sym c.read_field-2.ensures ∙ c.in_ok-m.was in
    let g = sym c.read_field-3.ensures ∙ c.in_err-n.was in
    rw (e, f, g) (search rules)

pub returns : goal.returns
unfolding from_policy
returns c =
    let e = sym c.read_field.ensures ∙ c.in_ok-policy.was in
    let f = sym c.read_field-2.ensures ∙ c.in_ok-m.was in
    let g = sym c.read_field-3.ensures ∙ c.in_ok-n.was in
    rw (e, f, g) c.read_tasks.ensures
