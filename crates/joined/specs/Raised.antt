-- Tick numbers raised (document 02, §9: "with tick numbers raised by the first's length").
use Rattle.std.specs.Prelude.{ℕ, ◌+◌, eqb}
use Rattle.lists.specs.Lists.{pick}
use Rattle.tasks.specs.declared.play.Outcome.{Outcome}
use Rattle.tasks.specs.declared.play.Outcome.TheVariants.{Kept, Missed}
use Rattle.tasks.specs.declared.play.ReplayAnswer.{ReplayAnswer}
use Rattle.tasks.specs.declared.play.ReplayAnswer.TheVariants.{Played, Refused}
use Rattle.tasks.specs.declared.play.Replayed.{Replayed}

-- a tick's number with k ticks before it; 0, which names no tick, stays
unfoldable pub raised_tick : ℕ → ℕ → ℕ
raised_tick k tick = pick (eqb tick 0) 0 (k + tick)

unfoldable pub raised_outcome : ℕ → Outcome → Outcome
raised_outcome k Kept = Kept
raised_outcome k (Missed tick) = Missed (raised_tick k tick)

unfoldable pub raised_answer : ℕ → ReplayAnswer → ReplayAnswer
raised_answer k (Played o) = Played (raised_outcome k o)
raised_answer k (Refused r tick) = Refused r (raised_tick k tick)

-- what a play answers, with k ticks before it
abbrev pub raised : ℕ → Replayed → Replayed
raised k r = record { answer = raised_answer k r.answer; state = r.state }
