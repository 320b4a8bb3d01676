-- By cases; the sum is below 2^64. Assumes nothing.
use Rattle.joined.specs.Raised.{raised_tick}
use borrow.Author.Tests.{eq-eqb, ne_eqb}
use Rattle.joined.proofs.after.raised_tick.Goals as goal

pub returns-then-tick-eq0 : goal.returns-then-tick-eq0
unfolding raised_tick
returns-then-tick-eq0 c = rw (eq-eqb c.args.tick 0 c.if-tick-eq0.true)

pub returns : goal.returns
unfolding raised_tick
returns c = rw (ne_eqb c.args.tick 0 c.if-tick-eq0.false)
