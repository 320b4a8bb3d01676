-- The number is refused, breaks its rule, or passes it. Assumes nothing.
use Rattle.std.proofs.Common.{rules}
use Rattle.tasks.specs.Sheet.{field_at}
use mathlib.Core.Path.{sym, ◌∙◌}
use Rattle.tasks.proofs.sheet.read_field.Goals as goal

pub returns-in_err-v : goal.returns-in_err-v
unfolding field_at
returns-in_err-v c = let e = sym c.read_number.ensures ∙ c.in_err-v.was in rw e (search rules)

pub returns-then-v-low : goal.returns-then-v-low
unfolding field_at
returns-then-v-low c = let e = sym c.read_number.ensures ∙ c.in_ok-v.was in rw (e, c.if-v-low.true)

pub returns : goal.returns
unfolding field_at
returns c = let e = sym c.read_number.ensures ∙ c.in_ok-v.was in rw (e, c.if-v-low.false)
