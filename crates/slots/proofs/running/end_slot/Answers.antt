-- Whether it is the last slot of its block. Assumes nothing.
use borrow.Author.Tests.{eq-eqb, ne_eqb}
use Rattle.slots.specs.Running.{ends_after}
use Rattle.slots.proofs.running.end_slot.Goals as goal

pub returns-then-i-eq4095 : goal.returns-then-i-eq4095
unfolding ends_after
returns-then-i-eq4095 c = rw (eq-eqb _ 4095 c.if-i-eq4095.true)

pub returns-else-i-eq4095 : goal.returns-else-i-eq4095
unfolding ends_after
returns-else-i-eq4095 c = rw (ne_eqb _ 4095 c.if-i-eq4095.false)
