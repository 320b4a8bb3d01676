-- Lists that are joined, and the states with which a list is kept. Assumes nothing.
use Prim.Native.Nat.{ℕ, ◌+◌}
use mathlib.Core.Path.{◌≡◌, refl, sym, ap, ◌∙◌}
use mathlib.Core.List.{List, [], ◌∷◌, ◌++◌}
use mathlib.Core.Bool.{false}
use native.Mathlib.Omega.{arith}
use lib.ListN.{length}
use Rattle.std.specs.Prelude.{Result, Ok, Err}
use Rattle.tasks.specs.declared.refusal.Refusal.{Refusal}
use Rattle.tasks.specs.Table.{table_fault}
use Rattle.tasks.specs.State.{start, improper}
use Rattle.tasks.specs.Tick.{ticked}
use Rattle.tasks.specs.Replay.{play_next, played, replayed}
use Rattle.tasks.specs.declared.state.State.{State}
use Rattle.tasks.specs.declared.table.Table.{Table}
use Rattle.tasks.specs.declared.tick.Step.{Step}
use Rattle.tasks.specs.declared.play.Outcome.TheVariants.{Kept}
use Rattle.tasks.specs.declared.play.ReplayAnswer.TheVariants.{Played}
use Rattle.tasks.specs.declared.play.Replayed.{Replayed}
use Rattle.tasks.proofs.Proper.{start_proper}
use Rattle.tasks.proofs.Answered.{ticked_proper}
use Rattle.tasks.proofs.Played.{replayed_played}

-- Kept with a state
abbrev pub kept : State → Replayed
kept s = record { answer = Played Kept; state = s }

-- where a tick goes on to a kept list it answered with the next state, and what follows from the rest follows
pub next_kept :
    {X : Type 0} (k : ℕ) (s s₁ s' : State) (rest : Replayed) (a : Result Step Refusal) → play_next k s s₁ rest a ≡ kept s'
    → (a ≡ (Ok Step.Next) → rest ≡ kept s' → X) → X
next_kept k s s₁ s' rest (Ok Step.Next) e f = f refl e
next_kept k s s₁ s' rest (Ok Step.Missed) e f = absurd (let z : ◌≡◌ {A = ℕ} 0 1 = cc (ap (λ r. r.answer) e) in omega arith)
next_kept k s s₁ s' rest (Err n) e f = absurd (let z : ◌≡◌ {A = ℕ} 0 1 = cc (ap (λ r. r.answer) e) in omega arith)

module _ (t : Table) where
  -- LAW: where a list is kept, a list after it is played from its state, with tick numbers raised by its length
  pub played_joined :
      (s : State) (k : ℕ) (l l' : List ℕ) (s' : State) → played t s k l ≡ kept s' → played t s k (l ++ l') ≡ played t s' (k + length l) l'
  unfolding played
  played_joined s k [] l' s' e = ap (λ r. played t r.state k l') e ∙ ap (λ n. played t s' n l') (omega arith)
  played_joined s k (mask ∷ masks) l' s' e =
      let s₁ = (ticked t s mask).state in
      next_kept (k + 1) s s₁ s' (played t s₁ (k + 1) masks) (ticked t s mask).answer e
      (λ next rest.
      ap (play_next (k + 1) s s₁ (played t s₁ (k + 1) (masks ++ l'))) next
      ∙ played_joined s₁ (k + 1) masks l' s' rest
      ∙ ap (λ n. played t s' n l') (omega arith))

  -- LAW: a list that is kept from a proper state ends in one
  pub played_proper : (s : State) (k : ℕ) (l : List ℕ) (s' : State) → improper t s ≡ false → played t s k l ≡ kept s' → improper t s' ≡ false
  unfolding played
  played_proper s k [] s' proper e = ap (λ r. improper t r.state) (sym e) ∙ proper
  played_proper s k (mask ∷ masks) s' proper e =
      let s₁ = (ticked t s mask).state in
      next_kept (k + 1) s s₁ s' (played t s₁ (k + 1) masks) (ticked t s mask).answer e
      (λ next rest. played_proper s₁ (k + 1) masks s' (ticked_proper t s mask next) rest)

  played_one : (s : State) (k mask : ℕ) → (ticked t s mask).answer ≡ (Ok Step.Next) → played t s k (mask ∷ []) ≡ kept (ticked t s mask).state
  unfolding played
  played_one s k mask e = ap (play_next (k + 1) s (ticked t s mask).state (kept (ticked t s mask).state)) e

  module _ (valid : table_fault t ≡ 0) where
    is_played : (l : List ℕ) → played t start 0 l ≡ replayed t l
    is_played l = replayed_played t l (omega arith)

    -- LAW: a replay that is kept ends in a proper state
    pub kept_proper : (l : List ℕ) (s : State) → replayed t l ≡ kept s → improper t s ≡ false
    kept_proper l s e = played_proper start 0 l s (start_proper t) (is_played l ∙ e)

    -- LAW: a replay that is kept, and one tick more that neither refuses nor misses
    pub kept_more :
        (l : List ℕ) (s : State) (mask : ℕ) → replayed t l ≡ kept s → (ticked t s mask).answer ≡ (Ok Step.Next)
        → replayed t (l ++ (mask ∷ [])) ≡ kept (ticked t s mask).state
    kept_more l s mask e next =
        sym (is_played (l ++ (mask ∷ []))) ∙ played_joined start 0 l (mask ∷ []) s (is_played l ∙ e) ∙ played_one s (0 + length l) mask next
