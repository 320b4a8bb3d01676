-- The field count is refused, or the policy is read next. Assumes nothing.
use Rattle.std.proofs.Common.{rules}
use Rattle.tasks.specs.Sheet.{sheet_of}
use mathlib.Core.Path.{sym, ◌∙◌}
use Rattle.tasks.proofs.sheet.read_sheet.Goals as goal

pub returns-in_err-next : goal.returns-in_err-next
unfolding sheet_of
returns-in_err-next c = let e = sym c.read_field.ensures ∙ c.in_err-next.was in rw e (search rules)

pub returns : goal.returns
unfolding sheet_of
returns c = let e = sym c.read_field.ensures ∙ c.in_ok-next.was in rw e c.read_header.ensures
