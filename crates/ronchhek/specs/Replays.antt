-- The replay for the plotter's C build: a sheet, a list of masks, and a lent space for the state (document 01, "Replay").
-- The answer is kind × 2^56 + number × 2^48 + tick: kind 1 Kept, 2 Missed with the tick's number, 0 refused with the refusal's number
-- and, for 11, the tick's. The state's bytes are those at the front of a slot: c, p of task 1, then task 2 and so on.
use Rattle.std.specs.Prelude.{ℕ, ◌+◌, ◌*◌, ◌^◌, List, ltb, leb, length, Result, Ok, Err}
use Rattle.lists.specs.Lists.{pick}
use Rattle.tasks.specs.Refusals.{refusal_number}
use Rattle.tasks.specs.Sheet.{sheet_of, table_in}
use Rattle.tasks.specs.Replay.{outcome_tick, replayed}
use Rattle.tasks.specs.declared.refusal.Refusal.{Refusal}
use Rattle.tasks.specs.declared.table.Table.{Table}
use Rattle.tasks.specs.declared.state.State.{State}
use Rattle.tasks.specs.declared.play.Outcome.{Outcome}
use Rattle.tasks.specs.declared.play.Outcome.TheVariants.{Kept, Missed}
use Rattle.tasks.specs.declared.play.ReplayAnswer.{ReplayAnswer}
use Rattle.tasks.specs.declared.play.ReplayAnswer.TheVariants.{Played, Refused}
use Rattle.slots.specs.StateSpace.{state_space}
use Rattle.ronchhek.specs.declared.replays.RefusedAt.{RefusedAt}

-- a refusal's number, and the tick's
abbrev pub refused_at : ℕ → ℕ → ℕ
refused_at r tick = r * 2 ^ 48 + tick

-- the number of each outcome
abbrev pub outcome_number : Outcome → ℕ
outcome_number Kept = 2 ^ 56
outcome_number (Missed k) = 2 * 2 ^ 56 + k

-- ---- the answer of the call

-- how a replay was played, or why not and at which tick
abbrev pub outcome_of : ReplayAnswer → Result Outcome RefusedAt
outcome_of (Played o) = Ok o
outcome_of (Refused r k) = Err (record { why = r; tick = k })

-- its number
abbrev pub replay_number : Result Outcome RefusedAt → ℕ
replay_number (Ok o) = outcome_number o
replay_number (Err e) = refused_at (refusal_number e.why) e.tick

-- the tick that it names
abbrev pub answer_tick : Result Outcome RefusedAt → ℕ
answer_tick (Ok o) = outcome_tick o
answer_tick (Err e) = e.tick

-- ---- the call

-- the number of each answer of a replay that has `size` bytes to write: 11 comes before 12, which is judged where a list is played and its
-- space is shorter
abbrev pub answer_number : ℕ → ReplayAnswer → List ℕ → ℕ
answer_number size (Played o) space = pick (ltb (length space) size) (refused_at 12 0) (outcome_number o)
answer_number size (Refused r k) space = refused_at (refusal_number r) k

-- the space afterwards: a list that was played leaves the sixteen bytes of its state at the front, a refusal leaves all
abbrev pub answer_space : ReplayAnswer → State → List ℕ → List ℕ
answer_space (Played o) s space = state_space s space
answer_space (Refused r k) s space = space

-- the replay of a table; a list with more ticks than the answer has room for is not played (12)
unfoldable pub table_number : ℕ → Table → List ℕ → List ℕ → ℕ
table_number size t list space = pick (leb (2 ^ 48) (length list)) (refused_at 12 0) (answer_number size (replayed t list).answer space)

unfoldable pub table_space : Table → List ℕ → List ℕ → List ℕ
table_space t list space =
    pick (leb (2 ^ 48) (length list)) space (answer_space (replayed t list).answer (replayed t list).state space)

-- the sheet's refusals 1 to 8 come first
abbrev pub if_accepted : Result Table Refusal → ℕ → ℕ
if_accepted (Ok t) n = n
if_accepted (Err r) n = refused_at (refusal_number r) 0

abbrev pub space_if_accepted : Result Table Refusal → List ℕ → List ℕ → List ℕ
space_if_accepted (Ok t) new old = new
space_if_accepted (Err r) new old = old

-- the call: the number that it returns, here with a size of 16, and the space afterwards
unfoldable pub call_number : ℕ → List ℕ → List ℕ → List ℕ → ℕ
call_number size sheet list space = if_accepted (sheet_of sheet) (table_number size (table_in (sheet_of sheet)) list space)

unfoldable pub call_space : List ℕ → List ℕ → List ℕ → List ℕ
call_space sheet list space = space_if_accepted (sheet_of sheet) (table_space (table_in (sheet_of sheet)) list space) space
