-- By cases. Assumes nothing.
use mathlib.Core.Path.{ap}
use Rattle.tasks.specs.Replay.{outcome_tick}
use Rattle.tasks.specs.declared.play.Outcome.TheVariants.{Missed}
use Rattle.joined.specs.Raised.{raised_outcome}
use Rattle.joined.proofs.after.raised_outcome.Goals as goal

pub raised_tick-requires : goal.raised_tick-requires
unfolding outcome_tick
raised_tick-requires c = rw c.in-Missed.is at c.requires

pub returns-in-Kept : goal.returns-in-Kept
unfolding raised_outcome
returns-in-Kept c = rw c.in-Kept.is

pub returns-in-Missed : goal.returns-in-Missed
unfolding raised_outcome
returns-in-Missed c = rw c.in-Missed.is (ap Missed c.raised_tick.ensures)
