-- Every answer in figures, after the kind of document 01's verdict number ("The search"): its kind and then its values. Kind 0 is refused,
-- with the refusal's number; the other cases have the kinds 1 and 2. No two cases have the same figures.
use Rattle.std.specs.Prelude.{ℕ, List, [], ◌∷◌, ◌++◌, Result, Ok, Err}
use Rattle.tasks.specs.Number.{Read}
use Rattle.tasks.specs.Refusals.{refusal_number}
use Rattle.tasks.specs.declared.refusal.Refusal.{Refusal}
use Rattle.tasks.specs.declared.table.Table.{Table}
use Rattle.tasks.specs.declared.state.State.{State}
use Rattle.tasks.specs.declared.tick.Step.{Step}
use Rattle.tasks.specs.declared.tick.Step.TheVariants.{Next, Missed}
use Rattle.tasks.specs.declared.tick.Ticked.{Ticked}
use Rattle.tasks.specs.declared.play.Outcome.TheVariants as Outcome
use Rattle.tasks.specs.declared.play.ReplayAnswer.{ReplayAnswer}
use Rattle.tasks.specs.declared.play.ReplayAnswer.TheVariants as Replay
use Rattle.tasks.specs.declared.play.Replayed.{Replayed}

-- ---- sheets ("The sheet as bytes")

-- a sheet number: the value and the next place
unfoldable pub number_answer : Read ℕ → List ℕ
number_answer (Ok (v, next)) = 1 ∷ v ∷ next ∷ []
number_answer (Err r) = 0 ∷ refusal_number r ∷ []

-- a sheet read: the numbers of its table
unfoldable pub sheet_answer : Result Table Refusal → List ℕ
sheet_answer (Ok t) = 1 ∷ t.policy ∷ t.m ∷ t.n ∷ (t.work ++ (t.deadline ++ t.gap))
sheet_answer (Err r) = 0 ∷ refusal_number r ∷ []

-- a sheet written: its length
unfoldable pub writing_answer : Result ℕ Refusal → List ℕ
writing_answer (Ok n) = 1 ∷ n ∷ []
writing_answer (Err r) = 0 ∷ refusal_number r ∷ []

-- ---- ticks ("One tick", "Replay"), each with the numbers of the state beside the answer

abbrev pub state_numbers : State → List ℕ
state_numbers s = s.c ++ s.p

unfoldable pub tick_figures : Result Step Refusal → State → List ℕ
tick_figures (Ok Next) s = 1 ∷ state_numbers s
tick_figures (Ok Missed) s = 2 ∷ state_numbers s
tick_figures (Err r) s = 0 ∷ refusal_number r ∷ state_numbers s

-- one tick: the state after it, or the one given
unfoldable pub tick_answer : Ticked → List ℕ
tick_answer r = tick_figures r.answer r.state

unfoldable pub replay_figures : ReplayAnswer → State → List ℕ
replay_figures (Replay.Played Outcome.Kept) s = 1 ∷ state_numbers s
replay_figures (Replay.Played (Outcome.Missed k)) s = 2 ∷ k ∷ state_numbers s
replay_figures (Replay.Refused r k) s = 0 ∷ refusal_number r ∷ k ∷ state_numbers s

-- the replay of a list: the tick of the miss or of the refusal, and the state then
unfoldable pub replay_answer : Replayed → List ℕ
replay_answer r = replay_figures r.answer r.state
