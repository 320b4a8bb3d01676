-- Joined lists, under every policy (document 02, §9). Assumes nothing.
use Prim.Native.Nat.{ℕ, ◌+◌}
use mathlib.Core.Path.{◌≡◌, refl, sym, ap, ◌∙◌}
use mathlib.Core.Bool.{false}
use mathlib.Core.List.{List, [], ◌∷◌, ◌++◌}
use native.Mathlib.Omega.{arith}
use lib.Dec.{ltb}
use lib.ListN.{length}
use borrow.Author.Tests.{ltb-false, ne_eqb}
use Rattle.lists.proofs.Bools.{by_bool}
use Rattle.std.specs.Prelude.{Result, Ok, Err}
use Rattle.tasks.specs.declared.refusal.Refusal.{Refusal}
use Rattle.tasks.specs.Table.{table_fault}
use Rattle.tasks.specs.State.{start, improper}
use Rattle.tasks.specs.Tick.{ticked}
use Rattle.tasks.specs.Replay.{play_next, played, replayed, played_from}
use Rattle.tasks.specs.declared.state.State.{State}
use Rattle.tasks.specs.declared.table.Table.{Table}
use Rattle.tasks.specs.declared.tick.Step.{Step}
use Rattle.tasks.specs.declared.tick.Step.TheVariants as Tick
use Rattle.tasks.specs.declared.play.Outcome.TheVariants.{Kept, Missed}
use Rattle.tasks.specs.declared.play.ReplayAnswer.{ReplayAnswer}
use Rattle.tasks.specs.declared.play.ReplayAnswer.TheVariants.{Played, Refused}
use Rattle.tasks.specs.declared.play.Replayed.{Replayed}
use Rattle.tasks.proofs.Played.{from_played, replayed_from}
use Rattle.tasks.proofs.Joined.{kept, played_joined, played_proper}
use Rattle.joined.specs.Raised.{raised_tick, raised_outcome, raised_answer, raised}

-- ---- numbers raised

tick_raised : (k n : ℕ) → raised_tick k (n + 1) ≡ k + n + 1
unfolding raised_tick
tick_raised k n = rw (ne_eqb (n + 1) 0 (λ e. omega arith)) (omega arith)

next_raised :
    (k n : ℕ) (s s' : State) (more rest : Replayed) (a : Result Step Refusal) → (a ≡ (Ok Tick.Next) → more ≡ raised k rest)
    → play_next (k + n + 1) s s' more a ≡ raised k (play_next (n + 1) s s' rest a)
unfolding raised_answer raised_outcome
next_raised k n s s' more rest (Ok Tick.Next) f = f refl
next_raised k n s s' more rest (Ok Tick.Missed) f = ap (λ i. record { answer = Played (Missed i); state = s' }) (sym (tick_raised k n))
next_raised k n s s' more rest (Err r) f = ap (λ i. record { answer = Refused r i; state = s }) (sym (tick_raised k n))

module _ (t : Table) where
  played_raised : (s : State) (k n : ℕ) (l : List ℕ) → played t s (k + n) l ≡ raised k (played t s n l)
  unfolding played raised_answer raised_outcome
  played_raised s k n [] = refl
  played_raised s k n (mask ∷ masks) =
      let s₁ = (ticked t s mask).state in
      let e : k + n + 1 ≡ k + (n + 1) = omega arith in
      next_raised k n s s₁ (played t s₁ (k + n + 1) masks) (played t s₁ (n + 1) masks) (ticked t s mask).answer
      (λ next. ap (λ i. played t s₁ i masks) e ∙ played_raised s₁ k (n + 1) masks)

  -- LAW: with k ticks before it a list is played as with none, with its tick numbers raised by k
  pub from_raised : (s : State) (k : ℕ) (l : List ℕ) → played_from t s k l ≡ raised k (played_from t s 0 l)
  unfolding played_from raised_answer raised_tick
  from_raised s k l =
      by_bool (ltb 0 (table_fault t)) (λ e. rw e)
      (λ e. rw e (by_bool (improper t s) (λ b. rw b) (λ b. rw b (let z : k ≡ k + 0 = omega arith in ap (λ i. played t s i l) z ∙ played_raised s k 0 l))))

  -- an answer that is raised, beside the state of the play with no ticks before
  pub after_answer :
      (s : State) (k : ℕ) (l : List ℕ) {r : Replayed} {a : ReplayAnswer} → r ≡ played_from t s 0 l → a ≡ raised_answer k r.answer
      → record { answer = a; state = r.state } ≡ played_from t s k l
  after_answer s k l {r} is e = ap (λ x. record { answer = x; state = r.state }) e ∙ ap (raised k) is ∙ sym (from_raised s k l)

-- ---- two lists

-- a list that is not Kept: no mask after it is read
next_ended :
    (k : ℕ) (s s' : State) (more rest : Replayed) (a : Result Step Refusal) → (a ≡ (Ok Tick.Next) → (rest.answer ≡ Played Kept → ⊥) → more ≡ rest)
    → ((play_next k s s' rest a).answer ≡ Played Kept → ⊥) → play_next k s s' more a ≡ play_next k s s' rest a
next_ended k s s' more rest (Ok Tick.Next) f h = f refl h
next_ended k s s' more rest (Ok Tick.Missed) f h = refl
next_ended k s s' more rest (Err r) f h = refl

module _ (t : Table) where
  played_ended : (s : State) (k : ℕ) (l l' : List ℕ) → ((played t s k l).answer ≡ Played Kept → ⊥) → played t s k (l ++ l') ≡ played t s k l
  unfolding played
  played_ended s k [] l' h = absurd (h refl)
  played_ended s k (mask ∷ masks) l' h =
      let s₁ = (ticked t s mask).state in
      next_ended (k + 1) s s₁ (played t s₁ (k + 1) (masks ++ l')) (played t s₁ (k + 1) masks) (ticked t s mask).answer
      (λ next rest. played_ended s₁ (k + 1) masks l' rest) h

  -- a play that is Kept was not refused before its first tick
  pub kept_from : (s : State) (k : ℕ) (l : List ℕ) (s' : State) → played_from t s k l ≡ kept s' → (table_fault t ≡ 0) × (improper t s ≡ false)
  unfolding played_from
  kept_from s k l s' e =
      by_bool (ltb 0 (table_fault t))
      (λ h. absurd (let q = rw h at e in let z : ◌≡◌ {A = ℕ} 0 1 = cc (ap (λ r. r.answer) q) in omega arith))
      (λ h.
      let f = rw h at e in
      by_bool (improper t s)
      (λ b. absurd (let q = rw b at f in let z : ◌≡◌ {A = ℕ} 0 1 = cc (ap (λ r. r.answer) q) in omega arith))
      (λ b. (omega (arith, ltb-false 0 (table_fault t) h), b)))

  module _ (s : State) (k : ℕ) (l l' : List ℕ) where
    -- THEOREM: playing two joined lists is playing the second from the state where the first was Kept, with the first's ticks before it as
    -- well
    pub from_joined : (s' : State) → played_from t s k l ≡ kept s' → played_from t s k (l ++ l') ≡ played_from t s' (k + length l) l'
    from_joined s' e =
        let ok = kept_from s k l s' e in
        let first : played t s k l ≡ kept s' = from_played t s k l ok.0 ok.1 ∙ e in
        sym (from_played t s k (l ++ l') ok.0 ok.1)
        ∙ played_joined t s k l l' s' first
        ∙ from_played t s' (k + length l) l' ok.0 (played_proper t s k l s' ok.1 first)

    -- THEOREM: .. and where the first is Missed or refused, the joined list answers as the first
    pub from_ended : ((played_from t s k l).answer ≡ Played Kept → ⊥) → played_from t s k (l ++ l') ≡ played_from t s k l
    unfolding played_from
    from_ended h =
        by_bool (ltb 0 (table_fault t)) (λ e. rw e)
        (λ e. rw e (by_bool (improper t s) (λ b. rw b) (λ b. rw b (played_ended s k l l' (rw (e, b) at h)))))

  -- THEOREM: the same of a replay: the second list is played by the other call, from the state where the first was Kept and with the
  -- first's length before it, which is to play it with none before and to raise its tick numbers by that length
  pub replay_joined : (l l' : List ℕ) (s : State) → replayed t l ≡ kept s → replayed t (l ++ l') ≡ played_from t s (length l) l'
  replay_joined l l' s e =
      let z : 0 + length l ≡ length l = omega arith in
      sym (replayed_from t (l ++ l')) ∙ from_joined start 0 l l' s (replayed_from t l ∙ e) ∙ ap (λ n. played_from t s n l') z

  pub replay_raised : (l l' : List ℕ) (s : State) → replayed t l ≡ kept s → replayed t (l ++ l') ≡ raised (length l) (played_from t s 0 l')
  replay_raised l l' s e = replay_joined l l' s e ∙ from_raised t s (length l) l'

  pub replay_ended : (l l' : List ℕ) → ((replayed t l).answer ≡ Played Kept → ⊥) → replayed t (l ++ l') ≡ replayed t l
  replay_ended l l' h =
      sym (replayed_from t (l ++ l')) ∙ from_ended start 0 l l' (rw (sym (replayed_from t l)) at h) ∙ replayed_from t l
