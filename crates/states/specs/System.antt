-- A task table as a transition system (document 01, "One tick" and "Replay"): its states, the release masks, the start state and one tick.
use Rattle.std.specs.Prelude.{ℕ, nat_lt}
use Rattle.lists.specs.Lists.{pick}
use Rattle.std.specs.Prelude.{Result, Ok, Err}
use Rattle.tasks.specs.declared.refusal.Refusal.{Refusal}
use Rattle.tasks.specs.State.{start}
use Rattle.tasks.specs.Tick.{ticked}
use Rattle.tasks.specs.declared.state.State.{State}
use Rattle.tasks.specs.declared.table.Table.{Table}
use Rattle.tasks.specs.declared.tick.Step.{Step}
use Rattle.tasks.specs.declared.tick.Step.TheVariants as Answer
use Rattle.levels.specs.Verdict.{System, Tick}
use Rattle.levels.specs.Verdict.Tick.{Next, Missed, Refused}

-- the answer of a tick with its state
abbrev pub tick_of : Result Step Refusal → State → Tick State
tick_of (Ok Answer.Next) s = Next s
tick_of (Ok Answer.Missed) s = Missed s
tick_of (Err r) s = Refused

-- one tick of a table; a mask is a byte, and any other number is refused
unfoldable pub step : Table → State → ℕ → Tick State
step t s mask = pick (nat_lt mask 256) (tick_of (ticked t s mask).answer (ticked t s mask).state) Refused

abbrev pub system : Table → System
system t = record { State = State; Mask = ℕ; start = start; step = step t }
