-- A shortest list that misses passes L different states, so under Unsafe L never exceeds the count, nor K.
use mathlib.Core.Path.{◌≡◌, refl, sym, ◌∙◌}
use mathlib.Core.List.{List, [], ◌∷◌, ◌++◌}
use Prim.Native.Nat.{ℕ, ◌+◌, ◌-◌, ◌≤◌, ◌<◌}
use native.Mathlib.Omega.{arith}
use native.Mathlib.Decide.{dec_lt}
use lib.ListN.{length, take, drop, length-append, length-take, length-drop, take-append-drop}
use Rattle.levels.specs.Verdict.{System, Replay, Reaches, Misses, replay, replay_from, Distinct, Counts, Least, Verdict}
use Rattle.levels.specs.Verdict.Replay.{Kept, MissedAt, RefusedAt}
use Rattle.levels.specs.Verdict.Answer.{Unsafe}
use Rattle.levels.proofs.Numbered.{no_more}
use Rattle.levels.proofs.Replay.{raise, replay_join, replay_refused}
use Rattle.levels.proofs.Verdicts.{least_unique}

module _ (sys : System) where
  open sys use {State, Mask, start, step}

  -- the last state, where the answer is Kept
  abbrev last : Replay State → State
  last (Kept s) = s
  last (MissedAt i s) = s
  last (RefusedAt i) = start

  -- an answer that is Missed stays so with other tick numbers
  raised : (j k : ℕ) (o : Replay State) {i : ℕ} {s : State} → raise j o ≡ MissedAt i s → (raise k o ≡ MissedAt (k + (i - j)) s)
  raised j k (Kept t) e = absurd (let z : ◌≡◌ {A = ℕ} 0 1 = cc in omega arith)
  raised j k (MissedAt n t) {i} e =
      let a : j + n ≡ i = cc in
      let b : i - j ≡ n = omega arith in
      rw b (cc)
  raised j k (RefusedAt n) e = absurd (let z : ◌≡◌ {A = ℕ} 0 1 = cc in omega arith)

  module _ {L : ℕ} (x : Least sys L) where
    -- the state after i ticks
    passed : ℕ → State
    passed i = last (replay sys (take i x.masks))

    whole : (i : ℕ) → take i x.masks ++ drop i x.masks ≡ x.masks
    whole i = take-append-drop i x.masks

    short : (i : ℕ) → i < L → length (take i x.masks) ≡ i
    short i h = length-take i x.masks ∙ (let l = x.long in omega arith)

    passes : (i : ℕ) → i < L → Reaches sys (take i x.masks) (passed i)
    unfolding passed
    passes i h = go (replay sys (take i x.masks)) refl
      where
        go : (o : Replay State) → replay sys (take i x.masks) ≡ o → o ≡ Kept (last o)
        go (Kept s) e = refl
        go (MissedAt j s) e = absurd (let l = x.least (take i x.masks) (record { tick = j; state = s; answer = e }) in let m = short i h in omega arith)
        go (RefusedAt j) e = absurd (
            let a = x.misses.answer in
            let b : replay sys x.masks ≡ RefusedAt j = (rw (whole i) at (replay_refused sys (take i x.masks) (drop i x.masks) e)) in
            let z : ◌≡◌ {A = ℕ} 0 1 = cc in omega arith)

    -- were two of them the same, the ticks between could be left out
    apart : (i j : ℕ) → i < j → j < L → passed i ≡ passed j → ⊥
    apart i j h b e =
        let rest = drop j x.masks in
        let ri : Reaches sys (take i x.masks) (passed j) = (rw e at (passes i (omega arith))) in
        let rj = replay_join sys (take j x.masks) rest (passes j b) in
        let all : raise (length (take j x.masks)) (replay_from sys 0 (passed j) rest) ≡ MissedAt x.misses.tick x.misses.state =
        sym rj ∙ (rw (whole j) x.misses.answer) in
        let cut = replay_join sys (take i x.masks) rest ri ∙ raised (length (take j x.masks)) (length (take i x.masks)) (replay_from sys 0 (passed j) rest) all in
        let l = x.least (take i x.masks ++ rest) (record { tick = _; state = _; answer = cut }) in
        omega (arith, length-append (take i x.masks) rest, length-drop j x.masks, short i (omega arith), x.long)

    distinct : Distinct passed L
    distinct i j hi hj e = go (dec_lt i j) (dec_lt j i)
      where
        go : Dec (i < j) → Dec (j < i) → i ≡ j
        go (yes a) b = absurd (apart i j a hj e)
        go (no a) (yes b) = absurd (apart j i b hi (sym e))
        go (no a) (no b) = omega arith

    -- L different states are within L - 1 ticks
    pub least_count : {n : ℕ} → Counts sys (L - 1) n → L ≤ n
    least_count c = no_more c passed L distinct (λ i h. record { masks = take i x.masks; short = (let l = short i h in omega arith); reaches = passes i h })

  -- the empty list does not miss
  pub least_positive : {L : ℕ} → Least sys L → 1 ≤ L
  least_positive {L} x = go x.masks x.long x.misses
    where
      go : (l : List Mask) → length l ≡ L → Misses sys l → 1 ≤ L
      go [] e w = absurd (let a = w.answer in let z : ◌≡◌ {A = ℕ} 0 1 = cc in omega arith)
      go (m ∷ ms) e w = omega arith

  -- under Unsafe L is at most the count, and at most K
  pub unsafe_count : {K L n : ℕ} {trace : List Mask} → Verdict sys K (Unsafe L n) trace → L ≤ n
  unsafe_count v = least_count v.report.least v.report.count

  pub unsafe_room : {K L n : ℕ} {trace : List Mask} → Verdict sys K (Unsafe L n) trace → L ≤ K
  unsafe_room {K} {L} v =
      let u = v.unsafe.0 tt in
      let e : u.L ≡ L = least_unique sys u.least v.report.least in
      let a = least_count u.least u.room.counts in
      let b = u.room.most in
      omega arith
