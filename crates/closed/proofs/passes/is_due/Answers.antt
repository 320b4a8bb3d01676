-- Case by case. Assumes nothing.
use mathlib.Core.Path.{refl}
use borrow.Author.Tests.{eq-eqb, ne_eqb}
use Rattle.lists.proofs.Picks.{pick_yes, pick_no}
use Rattle.closed.proofs.passes.is_due.Goals as goal

pub returns-then-mask-bit-eq0 : goal.returns-then-mask-bit-eq0
returns-then-mask-bit-eq0 c =
    pick_yes _ (eq-eqb _ _ c.if-mask-bit-eq0.true)

pub returns-else-mask-bit-eq0 : goal.returns-else-mask-bit-eq0
returns-else-mask-bit-eq0 c =
    pick_no _ (ne_eqb _ _ c.if-mask-bit-eq0.false) refl
