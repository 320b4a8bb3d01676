-- The answer names the tick that the replay does. Assumes nothing.
use mathlib.Core.Path.{refl}
use Rattle.tasks.specs.Replay.{replay_tick}
use Rattle.ronchhek.proofs.replays.outcome_of.Goals as goal

pub returns-in-Played : goal.returns-in-Played
unfolding replay_tick
returns-in-Played c = rw c.in-Played.is (refl, refl)

pub returns-in-Refused : goal.returns-in-Refused
unfolding replay_tick
returns-in-Refused c = rw c.in-Refused.is (refl, refl)
