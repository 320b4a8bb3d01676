-- The play of a list, one mask a turn, and the ticks that its answers name. Assumes nothing.
use Prim.Native.Nat.{ℕ, ◌+◌, ◌≤◌, ◌<◌}
use mathlib.Core.Path.{◌≡◌, refl, sym, ap, ◌∙◌}
use mathlib.Core.List.{List, [], ◌∷◌}
use mathlib.Core.Bool.{Bool, true, false}
use native.Mathlib.Omega.{arith}
use native.Mathlib.Numerals.{add-one}
use lib.Dec.{ltb}
use lib.ListN.{length, drop, get_or, drop_of_length-le}
use lib.Seq.{drop-cons}
use borrow.Author.Tests.{lt-ltb, le-ltb}
use Rattle.lists.specs.Lists.{pick}
use Rattle.std.specs.Prelude.{Result, Ok, Err}
use Rattle.tasks.specs.declared.refusal.Refusal.{Refusal}
use Rattle.tasks.specs.Table.{table_fault}
use Rattle.tasks.specs.State.{start, improper}
use Rattle.tasks.specs.Tick.{illegal, released, chosen, ran, after, missed, answered, ticked}
use Rattle.tasks.specs.Replay.{play_next, played, replayed, played_from, outcome_tick, replay_tick}
use Rattle.tasks.specs.declared.state.State.{State}
use Rattle.tasks.specs.declared.table.Table.{Table}
use Rattle.tasks.specs.declared.tick.Step.{Step}
use Rattle.tasks.specs.declared.tick.Ticked.{Ticked}
use Rattle.tasks.specs.declared.play.Outcome.TheVariants.{Kept, Missed}
use Rattle.tasks.specs.declared.play.ReplayAnswer.TheVariants.{Played, Refused}
use Rattle.tasks.specs.declared.refusal.Refusal.TheVariants.{Mask, Improper}
use Rattle.tasks.specs.Refusals.{refusal_at}
use Rattle.tasks.specs.declared.play.Replayed.{Replayed}
use Rattle.lists.proofs.Bools.{by_bool}
use Rattle.lists.proofs.Picks.{pick_yes, pick_no}
use Rattle.tasks.proofs.Proper.{start_proper}
use Rattle.tasks.proofs.Answered.{ticked_legal, ticked_steps, ticked_illegal, ticked_proper}

pub drop_step : (l : List ℕ) (i : ℕ) → i < length l → drop i l ≡ get_or l i 0 ∷ drop (i + 1) l
drop_step l i h = drop-cons l i 0 h ∙ ap (λ n. get_or l i 0 ∷ drop n l) (sym (add-one i))

module _ (t : Table) where
  -- one tick of the play, from what the tick returned
  pub played_step :
      (s : State) {r : Ticked} {a : Result Step Refusal} (l : List ℕ) (i : ℕ) → i < length l → r ≡ ticked t s (get_or l i 0) → r.answer ≡ a
      → played t s i (drop i l) ≡ play_next (i + 1) s r.state (played t r.state (i + 1) (drop (i + 1) l)) a
  unfolding played
  played_step s {r} {a} l i h e q =
      rw (drop_step l i h, ← e) (ap (play_next (i + 1) s r.state (played t r.state (i + 1) (drop (i + 1) l))) q)

  -- .. and from the steps of the tick, where the table is valid and the state proper
  module _ (valid : table_fault t ≡ 0) (s : State) (proper : improper t s ≡ false) (l : List ℕ) (i : ℕ) (h : i < length l) where
    pub played_refused :
        illegal t s (get_or l i 0) ≡ true → played t s i (drop i l) ≡ record { answer = Refused Mask (i + 1); state = s }
    played_refused bad = played_step s l i h (sym (ticked_illegal t s (get_or l i 0) valid proper bad)) refl

    module _ (legal : illegal t s (get_or l i 0) ≡ false) {r next : State} {run : List Bool}
        (r-is : r ≡ released t s (get_or l i 0)) (run_is : run ≡ chosen t r) (next-is : next ≡ ran r run)
      where
        now : ticked t s (get_or l i 0) ≡ answered (Ok (pick (missed t next) Step.Missed Step.Next)) next
        now = ticked_steps t s (get_or l i 0) r-is run_is next-is valid proper legal

        pub played_missed : missed t next ≡ true → played t s i (drop i l) ≡ record { answer = Played (Missed (i + 1)); state = next }
        played_missed m =
            let e : ticked t s (get_or l i 0) ≡ answered (Ok Step.Missed) next = rw m at now in
            played_step s l i h (sym e) refl

        pub played_next :
            missed t next ≡ false → (improper t next ≡ false) × (played t s i (drop i l) ≡ played t next (i + 1) (drop (i + 1) l))
        played_next m =
            let e : ticked t s (get_or l i 0) ≡ answered (Ok Step.Next) next = rw m at now in
            (rw e at (ticked_proper t s (get_or l i 0) (ap (λ a. a.answer) e)), played_step s l i h (sym e) refl)

  -- where no mask is left, the state is kept
  pub played_end :
      (s : State) (l : List ℕ) (i : ℕ) → length l ≤ i → played t s i (drop i l) ≡ record { answer = Played Kept; state = s }
  unfolding played
  played_end s l i h = rw (drop_of_length-le l h)

  -- a tick that is named is one of the list's
  next_tick :
      (k n : ℕ) (s s' : State) (r : Replayed) (a : Result Step Refusal) → k ≤ n → replay_tick r.answer ≤ n → replay_tick (play_next k s s' r a).answer ≤ n
  unfolding replay_tick outcome_tick
  next_tick k n s s' r (Ok Step.Next) h e = e
  next_tick k n s s' r (Ok Step.Missed) h e = h
  next_tick k n s s' r (Err number) h e = h

  played_tick : (s : State) (k : ℕ) (l : List ℕ) → replay_tick (played t s k l).answer ≤ k + length l
  unfolding played replay_tick outcome_tick
  played_tick s k [] = omega arith
  played_tick s k (mask ∷ masks) =
      let s' = (ticked t s mask).state in
      next_tick (k + 1) (k + length (mask ∷ masks)) s s' (played t s' (k + 1) masks) (ticked t s mask).answer (omega arith)
      (omega (arith, played_tick s' (k + 1) masks))

  -- ---- a list played on from any state, by what is judged first

  pub from_fault : (s : State) (k : ℕ) (l : List ℕ) → 0 < table_fault t → record { answer = Refused (refusal_at (table_fault t)) 0; state = s } ≡ played_from t s k l
  unfolding played_from
  from_fault s k l h = pick_yes _ (lt-ltb _ _ h)

  pub from_improper :
      (s : State) (k : ℕ) (l : List ℕ) → table_fault t ≡ 0 → improper t s ≡ true → record { answer = Refused Improper 0; state = s } ≡ played_from t s k l
  unfolding played_from
  from_improper s k l valid bad = rw (valid, bad)

  pub from_played : (s : State) (k : ℕ) (l : List ℕ) → table_fault t ≡ 0 → improper t s ≡ false → played t s k l ≡ played_from t s k l
  unfolding played_from
  from_played s k l valid proper = rw (valid, proper)

  -- LAW: the tick that such a play names is at most the list's last
  pub from_tick : (s : State) (k : ℕ) (l : List ℕ) → replay_tick (played_from t s k l).answer ≤ k + length l
  unfolding played_from replay_tick
  from_tick s k l =
      by_bool (ltb 0 (table_fault t))
      (λ e. rw e (omega arith))
      (λ e. rw e (by_bool (improper t s) (λ b. rw b (omega arith)) (λ b. rw b (played_tick s k l))))

  pub from_names :
      (s : State) (l : List ℕ) {r : Replayed} → r ≡ played_from t s 0 l → (r ≡ played_from t s 0 l) × (replay_tick r.answer ≤ length l)
  from_names s l e = (e, rw e (omega (arith, from_tick s 0 l)))

  -- ---- the replay

  -- LAW: a replay is played on from the start state, with no tick before
  pub replayed_from : (l : List ℕ) → played_from t start 0 l ≡ replayed t l
  unfolding played_from replayed
  replayed_from l = rw (start_proper t)

  -- LAW: the tick that a replay names is at most the list's length
  pub replayed_tick : (l : List ℕ) → replay_tick (replayed t l).answer ≤ length l
  replayed_tick l = rw (sym (replayed_from l)) (omega (arith, from_tick start 0 l))

  pub replay_names : (l : List ℕ) {r : Replayed} → r ≡ replayed t l → (r ≡ replayed t l) × (replay_tick r.answer ≤ length l)
  replay_names l e = (e, rw e (replayed_tick l))

  -- a bad table is refused with the start state, and with a valid one the list is played
  pub replayed_refused : (l : List ℕ) → 0 < table_fault t → record { answer = Refused (refusal_at (table_fault t)) 0; state = start } ≡ replayed t l
  replayed_refused l h = from_fault start 0 l h ∙ replayed_from l

  pub replayed_played : (l : List ℕ) → table_fault t ≤ 0 → played t start 0 l ≡ replayed t l
  unfolding replayed
  replayed_played l h = pick_no _ (le-ltb _ _ h) refl

  -- ---- the refusals of a play

  module _ (valid : table_fault t ≡ 0) where
    pub tick_eleven : (s : State) (mask : ℕ) (r : Refusal) → improper t s ≡ false → (ticked t s mask).answer ≡ Err r → r ≡ Mask
    tick_eleven s mask r proper e =
        by_bool (illegal t s mask)
        (λ h. cc (ap (λ x. x.answer) (ticked_illegal t s mask valid proper h)))
        (λ h.
        let legal = ap (λ x. x.answer) (ticked_legal t s mask valid proper h) in
        by_bool (missed t (after t s mask))
        (λ m. absurd (let q = rw m at legal in let z : ◌≡◌ {A = ℕ} 0 1 = cc in omega arith))
        (λ m. absurd (let q = rw m at legal in let z : ◌≡◌ {A = ℕ} 0 1 = cc in omega arith)))

    next_eleven :
        (k : ℕ) (r : Refusal) (n : ℕ) (s s' : State) (rest : Replayed) (a : Result Step Refusal) → ((q : Refusal) → a ≡ Err q → q ≡ Mask)
        → (a ≡ (Ok Step.Next) → rest.answer ≡ Refused r n → r ≡ Mask) → (play_next k s s' rest a).answer ≡ Refused r n → r ≡ Mask
    next_eleven k r n s s' rest (Ok Step.Next) h g e = g refl e
    next_eleven k r n s s' rest (Ok Step.Missed) h g e = absurd (let z : ◌≡◌ {A = ℕ} 0 1 = cc in omega arith)
    next_eleven k r n s s' rest (Err q) h g e = cc (h q refl)

    played_eleven : (s : State) (k : ℕ) (l : List ℕ) (r : Refusal) (n : ℕ) → improper t s ≡ false → (played t s k l).answer ≡ Refused r n → r ≡ Mask
    unfolding played
    played_eleven s k [] r n proper e = absurd (let z : ◌≡◌ {A = ℕ} 0 1 = cc in omega arith)
    played_eleven s k (mask ∷ masks) r n proper e =
        let s' = (ticked t s mask).state in
        next_eleven (k + 1) r n s s' (played t s' (k + 1) masks) (ticked t s mask).answer (λ q h. tick_eleven s mask q proper h)
        (λ h. played_eleven s' (k + 1) masks r n (ticked_proper t s mask h))
        e

    -- LAW: with a valid table a replay is refused with 11 or not at all
    pub replayed_eleven : (l : List ℕ) (r : Refusal) (n : ℕ) → (replayed t l).answer ≡ Refused r n → r ≡ Mask
    replayed_eleven l r n e =
        played_eleven start 0 l r n (start_proper t) (ap (λ x. x.answer) (replayed_played l (omega arith)) ∙ e)
