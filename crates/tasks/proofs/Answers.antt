-- An answer is what its figures say: no two answers have the same. Assumes nothing.
use Prim.Native.Nat.{ℕ}
use mathlib.Core.Path.{◌≡◌, refl, ap, ap₂}
use mathlib.Core.List.{List, ◌∷◌}
use native.Mathlib.Omega.{arith}
use lib.ListN.{get_or}
use Rattle.tasks.proofs.Refusals.{number_same}
use Rattle.std.specs.Prelude.{Result, Ok, Err}
use Rattle.tasks.specs.declared.refusal.Refusal.{Refusal}
use Rattle.tasks.specs.Number.{Read}
use Rattle.tasks.specs.Sheet.{table_in}
use Rattle.tasks.specs.Answers.{number_answer, sheet_answer, writing_answer, tick_figures, tick_answer, replay_figures, replay_answer}
use Rattle.tasks.specs.declared.table.Table.{Table}
use Rattle.tasks.specs.declared.state.State.{State}
use Rattle.tasks.specs.declared.tick.Step.{Step}
use Rattle.tasks.specs.declared.tick.Ticked.{Ticked}
use Rattle.tasks.specs.declared.play.Outcome.TheVariants as Outcome
use Rattle.tasks.specs.declared.play.ReplayAnswer.{ReplayAnswer}
use Rattle.tasks.specs.declared.play.ReplayAnswer.TheVariants as Replay
use Rattle.tasks.specs.declared.play.Replayed.{Replayed}

-- the figures of two kinds are not the same
pub other : {X : Type 0} {a b : ℕ} {l k : List ℕ} → (a ≡ b → ⊥) → a ∷ l ≡ b ∷ k → X
other differ e = absurd (differ (ap (λ l. get_or l 0 0) e))

pub second : {a b x y : ℕ} {l k : List ℕ} → x ∷ a ∷ l ≡ y ∷ b ∷ k → a ≡ b
second e = ap (λ l. get_or l 1 0) e

third : {a b u v x y : ℕ} {l k : List ℕ} → x ∷ u ∷ a ∷ l ≡ y ∷ v ∷ b ∷ k → a ≡ b
third e = ap (λ l. get_or l 2 0) e

-- ---- sheets

-- LAW: the number read is told by its figures
pub number_is : {a b : Read ℕ} → number_answer a ≡ number_answer b → a ≡ b
unfolding number_answer
number_is {a = Ok (v, next)} {b = Ok (w, after)} e = ap₂ (λ v next. Ok (v, next)) (second e) (third e)
number_is {a = Ok (v, next)} {b = Err r} e = other (λ h. omega arith) e
number_is {a = Err r} {b = Ok (v, next)} e = other (λ h. omega arith) e
number_is {a = Err r} {b = Err q} e = ap Err (number_same (second e))

-- LAW: what the writer answers is told by its figures
pub writing_is : {a b : Result ℕ Refusal} → writing_answer a ≡ writing_answer b → a ≡ b
unfolding writing_answer
writing_is {a = Ok n} {b = Ok k} e = ap Ok (second e)
writing_is {a = Ok n} {b = Err r} e = other (λ h. omega arith) e
writing_is {a = Err r} {b = Ok n} e = other (λ h. omega arith) e
writing_is {a = Err r} {b = Err q} e = ap Err (number_same (second e))

-- LAW: a sheet read is told by its figures and its table
pub sheet_is : {a b : Result Table Refusal} → (sheet_answer a ≡ sheet_answer b) × (table_in a ≡ table_in b) → a ≡ b
unfolding sheet_answer
sheet_is {a = Ok t} {b = Ok u} e = ap Ok e.1
sheet_is {a = Ok t} {b = Err r} e = other (λ h. omega arith) e.0
sheet_is {a = Err r} {b = Ok t} e = other (λ h. omega arith) e.0
sheet_is {a = Err r} {b = Err q} e = ap Err (number_same (second e.0))

-- ---- ticks

tick_answer_is : {a b : Result Step Refusal} (s u : State) → tick_figures a s ≡ tick_figures b u → a ≡ b
unfolding tick_figures
tick_answer_is {a = Ok Step.Next} {b = Ok Step.Next} s u e = refl
tick_answer_is {a = Ok Step.Next} {b = Ok Step.Missed} s u e = other (λ h. omega arith) e
tick_answer_is {a = Ok Step.Next} {b = Err r} s u e = other (λ h. omega arith) e
tick_answer_is {a = Ok Step.Missed} {b = Ok Step.Next} s u e = other (λ h. omega arith) e
tick_answer_is {a = Ok Step.Missed} {b = Ok Step.Missed} s u e = refl
tick_answer_is {a = Ok Step.Missed} {b = Err r} s u e = other (λ h. omega arith) e
tick_answer_is {a = Err r} {b = Ok Step.Next} s u e = other (λ h. omega arith) e
tick_answer_is {a = Err r} {b = Ok Step.Missed} s u e = other (λ h. omega arith) e
tick_answer_is {a = Err r} {b = Err q} s u e = ap Err (number_same (second e))

-- LAW: a tick's answer is told by its figures and its state
pub tick_is : {a b : Ticked} → (tick_answer a ≡ tick_answer b) × (a.state ≡ b.state) → a ≡ b
unfolding tick_answer
tick_is {a} {b} e = ap₂ (λ x s. record { answer = x; state = s }) (tick_answer_is a.state b.state e.0) e.1

pub tick_told : {a b : Ticked} → a ≡ b → (tick_answer a ≡ tick_answer b) × (a.state ≡ b.state)
tick_told e = (ap tick_answer e, ap (λ (x : Ticked). x.state) e)

replay_answer_is : {a b : ReplayAnswer} (s u : State) → replay_figures a s ≡ replay_figures b u → a ≡ b
unfolding replay_figures
replay_answer_is {a = Replay.Played Outcome.Kept} {b = Replay.Played Outcome.Kept} s u e = refl
replay_answer_is {a = Replay.Played Outcome.Kept} {b = Replay.Played (Outcome.Missed k)} s u e = other (λ h. omega arith) e
replay_answer_is {a = Replay.Played Outcome.Kept} {b = Replay.Refused r k} s u e = other (λ h. omega arith) e
replay_answer_is {a = Replay.Played (Outcome.Missed k)} {b = Replay.Played Outcome.Kept} s u e = other (λ h. omega arith) e
replay_answer_is {a = Replay.Played (Outcome.Missed k)} {b = Replay.Played (Outcome.Missed n)} s u e = ap (λ x. Replay.Played (Outcome.Missed x)) (second e)
replay_answer_is {a = Replay.Played (Outcome.Missed k)} {b = Replay.Refused r n} s u e = other (λ h. omega arith) e
replay_answer_is {a = Replay.Refused r k} {b = Replay.Played Outcome.Kept} s u e = other (λ h. omega arith) e
replay_answer_is {a = Replay.Refused r k} {b = Replay.Played (Outcome.Missed n)} s u e = other (λ h. omega arith) e
replay_answer_is {a = Replay.Refused r k} {b = Replay.Refused q n} s u e = ap₂ Replay.Refused (number_same (second e)) (third e)

-- LAW: a replay's answer is told by its figures and its state
pub replay_is : {a b : Replayed} → (replay_answer a ≡ replay_answer b) × (a.state ≡ b.state) → a ≡ b
unfolding replay_answer
replay_is {a} {b} e = ap₂ (λ x s. record { answer = x; state = s }) (replay_answer_is a.state b.state e.0) e.1

pub replay_told : {a b : Replayed} → a ≡ b → (replay_answer a ≡ replay_answer b) × (a.state ≡ b.state)
replay_told e = (ap replay_answer e, ap (λ (x : Replayed). x.state) e)
