-- The system of a table against the tick and the replay: its steps from a proper state, that every state reached is proper, and that its
-- replay of a list of bytes is the replay of `tasks`. Assumes nothing.
use Rattle.std.proofs.Common.{◌≡◌, ℕ, suc, ◌+◌, ◌<◌, ◌≤◌, true, false, ◌⊎◌, List, [], ◌∷◌, get_or, sym, refl, ap, ◌∙◌, add-one, arith, le-ltb, lt-ltb}
use mathlib.Core.Logic.◌⊎◌.{inl, inr}
use native.Mathlib.Decide.{dec_lt}
use Rattle.std.specs.Prelude.{Result, Ok, Err}
use Rattle.tasks.specs.declared.refusal.Refusal.{Refusal}
use Rattle.tasks.specs.Table.{table_fault}
use Rattle.tasks.specs.State.{start, improper}
use Rattle.tasks.specs.Tick.{illegal, after, missed, refusal, ticked}
use Rattle.tasks.specs.Masks.{free_mask}
use Rattle.tasks.specs.Replay as tasks
use Rattle.tasks.specs.declared.state.State.{State}
use Rattle.tasks.specs.declared.table.Table.{Table}
use Rattle.tasks.specs.declared.tick.Step.{Step}
use Rattle.tasks.specs.declared.tick.Step.TheVariants as Answer
use Rattle.tasks.specs.declared.play.Outcome.{Outcome}
use Rattle.tasks.specs.declared.play.ReplayAnswer.{ReplayAnswer}
use Rattle.tasks.specs.declared.play.Replayed.{Replayed}
use Rattle.lists.proofs.Bools.{by_bool}
use Rattle.tasks.proofs.Proper.{start_proper}
use Rattle.tasks.proofs.Answered.{ticked_refused, ticked_missed, ticked_next, refusal_none, refusal_passed, ticked_illegal, ticked_proper}
use Rattle.tasks.proofs.Played.{replayed_played}
use Rattle.levels.specs.Verdict.{Replay, Reached, replay_from, replay}
use Rattle.levels.specs.Verdict as levels
use Rattle.levels.specs.Verdict.Tick.{Next, Missed, Refused}
use Rattle.levels.specs.Verdict.Replay.{Kept, MissedAt, RefusedAt}
use Rattle.levels.proofs.Replay.{reach_ind}
use Rattle.states.specs.System.{tick_of, step, system}
use Rattle.states.proofs.MaskTest.{submask}
use Rattle.states.proofs.MaskLaws.{submask_legal, legal_submask}

module _ (t : Table) (s : State) (m : ℕ) where
  -- a number that is no byte is refused
  pub step_large : 256 ≤ m → step t s m ≡ Refused
  unfolding step
  step_large h = rw (le-ltb m 256 h)

  -- a byte's step is the tick's answer
  pub step_tick_lem : m < 256 → step t s m ≡ tick_of (ticked t s m).answer (ticked t s m).state
  unfolding step
  step_tick_lem h = rw (lt-ltb m 256 h)

  -- whatever the tick refuses, the step does
  pub step_refused : 0 < refusal t s m → step t s m ≡ Refused
  step_refused h =
      elim (dec_lt m 256) [
        | yes b ↦ step_tick_lem b ∙ ap (λ r. tick_of r.answer r.state) (sym (ticked_refused t s m h))
        | no b ↦ step_large (omega arith)
      ]

-- LAW: a step that is not refused has a legal mask
pub step_legal : (t : Table) (s : State) (m : ℕ) → (step t s m ≡ Refused → ⊥) → (m < 256) × (illegal t s m ≡ false)
step_legal t s m some =
    elim (dec_lt m 256) [
      | yes b ↦
          elim (dec_lt 0 (refusal t s m)) [
            | yes h ↦ absurd (some (step_refused t s m h))
            | no h ↦ (b, (refusal_passed t s m (omega arith)).2)
          ]
      | no b ↦ absurd (some (step_large t s m (omega arith)))
    ]

tick_next : (a : Result Step Refusal) (s u : State) → tick_of a s ≡ Next u → (a ≡ (Ok Answer.Next)) × (s ≡ u)
tick_next (Ok Answer.Next) s u e = (refl, cc)
tick_next (Ok Answer.Missed) s u e = absurd (let z : ◌≡◌ {A = ℕ} 0 1 = cc in omega arith)
tick_next (Err r) s u e = absurd (let z : ◌≡◌ {A = ℕ} 0 1 = cc in omega arith)

module _ (t : Table) (valid : table_fault t ≡ 0) where
  module _ (s : State) (proper : improper t s ≡ false) (m : ℕ) where
    module _ (small : m < 256) (legal : submask (free_mask t s) m ≡ true) where
      none : refusal t s m ≤ 0
      none = omega (arith, refusal_none t s m valid proper (submask_legal t s m legal))

      -- LAW: a legal mask's step is Missed or Next with the state after the tick
      pub step_missed : missed t (after t s m) ≡ true → step t s m ≡ Missed (after t s m)
      step_missed e = step_tick_lem t s m small ∙ ap (λ r. tick_of r.answer r.state) (sym (ticked_missed t s m none e))

      pub step_next : missed t (after t s m) ≡ false → step t s m ≡ Next (after t s m)
      step_next e = step_tick_lem t s m small ∙ ap (λ r. tick_of r.answer r.state) (sym (ticked_next t s m none e))

    -- LAW: any other mask is refused
    pub step_illegal : illegal t s m ≡ true → step t s m ≡ Refused
    step_illegal e =
        elim (dec_lt m 256) [
          | yes b ↦ step_tick_lem t s m b ∙ ap (λ r. tick_of r.answer r.state) (ticked_illegal t s m valid proper e)
          | no b ↦ step_large t s m (omega arith)
        ]

    pub legal_or_refused : ((m < 256) × (submask (free_mask t s) m ≡ true)) ⊎ (step t s m ≡ Refused)
    legal_or_refused =
        elim (dec_lt m 256) [
          | yes b ↦
              by_bool (illegal t s m) (λ e. inr (step_illegal e)) (λ e. inl (b, legal_submask t s m e))
          | no b ↦ inr (step_large t s m (omega arith))
        ]

  -- ---- every state reached is proper

  -- LAW: a state that a step leads to is proper
  pub next_proper : (s : State) (m : ℕ) (u : State) → step t s m ≡ Next u → improper t u ≡ false
  next_proper s m u e =
      elim (dec_lt m 256) [
        | yes b ↦
            let r = ticked t s m in
            let k = tick_next r.answer r.state u (sym (step_tick_lem t s m b) ∙ e) in
            rw k.1 at (ticked_proper t s m k.0)
        | no b ↦ absurd (let q = step_large t s m (omega arith) in let z : ◌≡◌ {A = ℕ} 0 1 = cc in omega arith)
      ]

  -- LAW: every state that a list reaches is proper
  pub reached_proper : (s : State) → Reached (system t) s → improper t s ≡ false
  reached_proper s r =
      reach_ind (system t) (λ k u. improper t u ≡ false) (λ k u m v p e. next_proper u m v e) (start_proper t) r.masks s r.reaches

-- ---- the replay

-- the answer of a replay with its state, as the system's replay has it
abbrev pub replay_of : ReplayAnswer → State → Replay State
replay_of (ReplayAnswer.Played Outcome.Kept) s = Kept s
replay_of (ReplayAnswer.Played (Outcome.Missed k)) s = MissedAt k s
replay_of (ReplayAnswer.Refused r k) s = RefusedAt k

missed_answer : (a : ReplayAnswer) (s : State) {L : ℕ} {u : State} → replay_of a s ≡ MissedAt L u → a ≡ ReplayAnswer.Played (Outcome.Missed L)
missed_answer (ReplayAnswer.Played Outcome.Kept) s e = absurd (let z : ◌≡◌ {A = ℕ} 0 1 = cc in omega arith)
missed_answer (ReplayAnswer.Played (Outcome.Missed k)) s {L} e = let z : k ≡ L = cc in rw z
missed_answer (ReplayAnswer.Refused r k) s e = absurd (let z : ◌≡◌ {A = ℕ} 0 1 = cc in omega arith)

step_replay :
    (k : ℕ) (a : Result Step Refusal) (s s' : State) (rest : Replayed) (go : State → Replay State) → go s' ≡ replay_of rest.answer rest.state
    → levels.go_on k (tick_of a s') go ≡ replay_of (tasks.play_next (k + 1) s s' rest a).answer (tasks.play_next (k + 1) s s' rest a).state
step_replay k (Ok Answer.Next) s s' rest go e = e
step_replay k (Ok Answer.Missed) s s' rest go e = rw add-one
step_replay k (Err r) s s' rest go e = rw add-one

module _ (t : Table) where
  played_replay :
      (l : List ℕ) → ((i : ℕ) → get_or l i 0 < 256) → (k : ℕ) (s : State)
      → replay_from (system t) k s l ≡ replay_of (tasks.played t s k l).answer (tasks.played t s k l).state
  unfolding tasks.played
  played_replay [] f k s = refl
  played_replay (m ∷ ms) f k s =
      let r = ticked t s m in
      ap (λ o. levels.go_on k o (λ u. replay_from (system t) (suc k) u ms)) (step_tick_lem t s m (f 0))
      ∙ step_replay k r.answer s r.state (tasks.played t r.state (k + 1) ms) (λ u. replay_from (system t) (suc k) u ms)
      (ap (λ n. replay_from (system t) n r.state ms) (sym (add-one k)) ∙ played_replay ms (λ i. f (suc i)) (k + 1) r.state)

  -- LAW: for a valid table and a list of bytes, the system's replay is the replay of `tasks`
  pub replay_same :
      table_fault t ≡ 0 → (l : List ℕ) → ((i : ℕ) → get_or l i 0 < 256)
      → replay (system t) l ≡ replay_of (tasks.replayed t l).answer (tasks.replayed t l).state
  replay_same valid l f =
      played_replay l f 0 start ∙ ap (λ r. replay_of r.answer r.state) (replayed_played t l (omega arith))

  -- LAW: where the system's replay is Missed at a tick, so is the replay of `tasks`
  pub replay_missed :
      table_fault t ≡ 0 → (l : List ℕ) → ((i : ℕ) → get_or l i 0 < 256) → {L : ℕ} {u : State} → replay (system t) l ≡ MissedAt L u
      → (tasks.replayed t l).answer ≡ ReplayAnswer.Played (Outcome.Missed L)
  replay_missed valid l f e =
      missed_answer (tasks.replayed t l).answer (tasks.replayed t l).state (sym (replay_same valid l f) ∙ e)
