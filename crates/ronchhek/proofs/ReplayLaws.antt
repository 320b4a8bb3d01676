-- The ways in which the replay of a sheet's table ends. Assumes nothing.
use Prim.Native.Nat.{ℕ, ◌^◌, ◌≤◌, ◌<◌}
use mathlib.Core.Path.{◌≡◌, refl}
use mathlib.Core.List.{List}
use native.Mathlib.Omega.{arith}
use lib.Dec.{ltb}
use lib.ListN.{length}
use borrow.Author.Tests.{lt-ltb, le-ltb, le-leb, lt-leb, ltb-true, ltb-false}
use Rattle.std.specs.Prelude.{Result, Ok, Err}
use Rattle.tasks.specs.Refusals.{refusal_number}
use Rattle.tasks.specs.Sheet.{sheet_of}
use Rattle.tasks.specs.Replay.{replay_tick, replayed}
use Rattle.tasks.specs.declared.refusal.Refusal.{Refusal}
use Rattle.tasks.specs.declared.refusal.Refusal.TheVariants.{ShortOutput}
use Rattle.tasks.specs.declared.table.Table.{Table}
use Rattle.tasks.specs.declared.play.Outcome.{Outcome}
use Rattle.tasks.specs.declared.play.ReplayAnswer.{ReplayAnswer}
use Rattle.tasks.specs.declared.play.ReplayAnswer.TheVariants.{Played, Refused}
use Rattle.lists.specs.Lists.{pick}
use Rattle.lists.proofs.Bools.{by_bool}
use Rattle.slots.specs.StateSpace.{state_space}
use Rattle.ronchhek.specs.declared.replays.RefusedAt.{RefusedAt}
use Rattle.ronchhek.specs.Replays.{refused_at, outcome_number, outcome_of, replay_number, answer_tick, table_number, table_space, call_number, call_space}

-- an answer names the tick that the replay does
pub tick_same : (a : ReplayAnswer) → answer_tick (outcome_of a) ≡ replay_tick a
unfolding replay_tick
tick_same (Played o) = refl
tick_same (Refused r k) = refl

refused_is : (a : ReplayAnswer) {e : RefusedAt} → outcome_of a ≡ Err e → a ≡ Refused e.why e.tick
refused_is (Played o) h = absurd (let z : ◌≡◌ {A = ℕ} 0 1 = cc in omega arith)
refused_is (Refused r k) {e} h = let q : record { why = r; tick = k } ≡ e = cc in rw (← q)

played_is : (a : ReplayAnswer) {o : Outcome} → outcome_of a ≡ Ok o → a ≡ Played o
played_is (Played o) h = cc
played_is (Refused r k) h = absurd (let z : ◌≡◌ {A = ℕ} 0 1 = cc in omega arith)

-- what is written to the front of a space: `size` bytes, or none where the space is shorter, and 12 says so
abbrev pub front_writing : ℕ → List ℕ → Result ℕ Refusal
front_writing size space = pick (ltb (length space) size) (Err ShortOutput) (Ok size)

module _ (size : ℕ) (space : List ℕ) where
  pub not_written : {r : Refusal} → front_writing size space ≡ Err r → (length space < size) × (r ≡ ShortOutput)
  not_written {r} e =
      by_bool (ltb (length space) size)
      (λ h.
      let q : ◌≡◌ {A = Result ℕ Refusal} (Err ShortOutput) (Err r) = rw h at e in
      (ltb-true (length space) size h, cc))
      (λ h.
      let q : ◌≡◌ {A = Result ℕ Refusal} (Ok size) (Err r) = rw h at e in
      absurd (let z : ◌≡◌ {A = ℕ} 0 1 = cc in omega arith))

  pub written_room : {n : ℕ} → front_writing size space ≡ Ok n → size ≤ length space
  written_room {n} e =
      by_bool (ltb (length space) size)
      (λ h.
      let q : ◌≡◌ {A = Result ℕ Refusal} (Err ShortOutput) (Ok n) = rw h at e in
      absurd (let z : ◌≡◌ {A = ℕ} 0 1 = cc in omega arith))
      (λ h. ltb-false (length space) size h)

-- ---- the number, whatever is written

module _ (size : ℕ) (sheet list space : List ℕ) where
  -- the sheet is refused
  pub unread_number : {r : Refusal} → sheet_of sheet ≡ Err r → refused_at (refusal_number r) 0 ≡ call_number size sheet list space
  unfolding call_number
  unread_number e = rw e

  module _ {t : Table} (read : sheet_of sheet ≡ Ok t) where
    -- more ticks than the answer has room for
    pub long_number : 2 ^ 48 ≤ length list → refused_at 12 0 ≡ call_number size sheet list space
    unfolding call_number table_number
    long_number h = rw (read, le-leb (2 ^ 48) (length list) h)

    module _ (short : length list < 2 ^ 48) where
      -- a tick was refused
      pub refused_number : {e : RefusedAt} → outcome_of (replayed t list).answer ≡ Err e → replay_number (Err e) ≡ call_number size sheet list space
      unfolding call_number table_number
      refused_number e = rw (read, lt-leb (2 ^ 48) (length list) short, refused_is (replayed t list).answer e)

      module _ {o : Outcome} (played : outcome_of (replayed t list).answer ≡ Ok o) where
        -- the list was played, and there is no room for what is to be written
        pub unwritten_number : length space < size → refused_at 12 0 ≡ call_number size sheet list space
        unfolding call_number table_number
        unwritten_number h = rw (read, lt-leb (2 ^ 48) (length list) short, played_is (replayed t list).answer played, lt-ltb (length space) size h)

        -- the list was played
        pub played_number : size ≤ length space → outcome_number o ≡ call_number size sheet list space
        unfolding call_number table_number
        played_number h = rw (read, lt-leb (2 ^ 48) (length list) short, played_is (replayed t list).answer played, le-ltb (length space) size h)

-- ---- the state in its space

module _ (sheet list space : List ℕ) where
  pub unread_space : {r : Refusal} → sheet_of sheet ≡ Err r → space ≡ call_space sheet list space
  unfolding call_space
  unread_space e = rw e

  module _ {t : Table} (read : sheet_of sheet ≡ Ok t) where
    pub long_space : 2 ^ 48 ≤ length list → space ≡ call_space sheet list space
    unfolding call_space table_space
    long_space h = rw (read, le-leb (2 ^ 48) (length list) h)

    module _ (short : length list < 2 ^ 48) where
      pub refused_space : {e : RefusedAt} → outcome_of (replayed t list).answer ≡ Err e → space ≡ call_space sheet list space
      unfolding call_space table_space
      refused_space e = rw (read, lt-leb (2 ^ 48) (length list) short, refused_is (replayed t list).answer e)

      pub played_space : {o : Outcome} → outcome_of (replayed t list).answer ≡ Ok o → state_space (replayed t list).state space ≡ call_space sheet list space
      unfolding call_space table_space
      played_space e = rw (read, lt-leb (2 ^ 48) (length list) short, played_is (replayed t list).answer e)
