-- The replay of a release list (document 01, "Replay").
use Rattle.std.specs.Prelude.{ℕ, ◌+◌, List, [], ◌∷◌, ltb, Result, Ok, Err}
use Rattle.lists.specs.Lists.{pick}
use Rattle.tasks.specs.Table.{table_fault}
use Rattle.tasks.specs.State.{start, improper}
use Rattle.tasks.specs.Tick.{ticked}
use Rattle.tasks.specs.declared.state.State.{State}
use Rattle.tasks.specs.declared.table.Table.{Table}
use Rattle.tasks.specs.Refusals.{refusal_at}
use Rattle.tasks.specs.declared.refusal.Refusal.{Refusal}
use Rattle.tasks.specs.declared.refusal.Refusal.TheVariants.{Improper}
use Rattle.tasks.specs.declared.tick.Step.{Step}
use Rattle.tasks.specs.declared.play.Outcome.{Outcome}
use Rattle.tasks.specs.declared.play.Outcome.TheVariants.{Kept, Missed}
use Rattle.tasks.specs.declared.play.ReplayAnswer.{ReplayAnswer}
use Rattle.tasks.specs.declared.play.ReplayAnswer.TheVariants.{Played, Refused}
use Rattle.tasks.specs.declared.play.Replayed.{Replayed}

-- what the answer of tick k leads to, from state s to s', where `rest` is the play of the masks after it
abbrev pub play_next : ℕ → State → State → Replayed → Result Step Refusal → Replayed
play_next k s s' rest (Ok Step.Next) = rest
play_next k s s' rest (Ok Step.Missed) = record { answer = Played (Missed k); state = s' }
play_next k s s' rest (Err r) = record { answer = Refused r k; state = s }

-- the masks played from state s, one a tick, after k ticks
unfoldable pub played : Table → State → ℕ → List ℕ → Replayed
played t s k [] = record { answer = Played Kept; state = s }
played t s k (mask ∷ masks) =
    play_next (k + 1) s (ticked t s mask).state (played t (ticked t s mask).state (k + 1) masks) (ticked t s mask).answer

-- the masks played from the start state; a bad table is refused before the first tick
unfoldable pub replayed : Table → List ℕ → Replayed
replayed t masks =
    pick (ltb 0 (table_fault t)) (record { answer = Refused (refusal_at (table_fault t)) 0; state = start }) (played t start 0 masks)

-- the masks played on from any state (document 02, §9), after k ticks: refused before the first tick with 4 to 7 for the table, then 13
-- for the state
unfoldable pub played_from : Table → State → ℕ → List ℕ → Replayed
played_from t s k masks =
    pick (ltb 0 (table_fault t)) (record { answer = Refused (refusal_at (table_fault t)) 0; state = s })
    (pick (improper t s) (record { answer = Refused Improper 0; state = s })
    (played t s k masks))

-- ---- the tick that an answer names

-- the tick of the miss, 0 where there is none
unfoldable pub outcome_tick : Outcome → ℕ
outcome_tick Kept = 0
outcome_tick (Missed k) = k

-- the tick of the miss or of the refusal, 0 where no tick has one
unfoldable pub replay_tick : ReplayAnswer → ℕ
replay_tick (Played o) = outcome_tick o
replay_tick (Refused r k) = k
