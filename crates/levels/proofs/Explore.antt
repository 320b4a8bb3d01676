-- The laws of a search level by level: its start, the hunt, the pairs tried, a push, the next level.
use mathlib.Core.Path.{◌≡◌, refl, ◌∙◌}
use mathlib.Core.Logic.{◌⊎◌, ⊎_elim}
use mathlib.Core.Logic.◌⊎◌.{inl, inr}
use mathlib.Core.List.{List, [], ◌∷◌}
use Prim.Native.Nat.{ℕ, suc, ◌≤◌, ◌<◌, suc-le-suc}
use native.Mathlib.Omega.{arith}
use native.Mathlib.Decide.{dec_lt}
use lib.ListN.{length}
use Rattle.levels.specs.Verdict.{System, Within, Misses, Reaches, Distinct, Holds, CountAtMost}
use Rattle.levels.specs.Verdict.Tick.{Next, Missed}
use Rattle.levels.specs.Levels.{Before, Calm, Hunted, Hunting, Covered, Storing}
use Rattle.levels.proofs.Numbered.{split_last, holds_more, push_distinct}
use Rattle.levels.proofs.Replay.{within_start, within_next, within_more, miss_within, reach_ind}

module _ (sys : System) where
  open sys use {State, Mask, start, step}

  -- the level is complete: slots 0 to hi - 1 hold the states reached within d ticks, each once; those before lo were tried
  pub record Explored (at : ℕ → State) (lo hi d : ℕ) : Type 0 where
    pub order : lo ≤ hi
    pub distinct : Distinct at hi
    pub sound : (i : ℕ) → i < hi → Within sys d (at i)
    pub full : (s : State) → Within sys d s → Holds at hi s
    pub closed : (i : ℕ) → i < lo → (m : Mask) → Covered sys at hi (at i) m
    pub calm : (i : ℕ) → i < lo → Calm sys (at i)
    pub quiet : (l : List Mask) → length l ≤ d → Misses sys l → ⊥
    pub past : (e : ℕ) → e ≤ d → CountAtMost sys e hi

  -- within no tick there is only the start
  pub within_none : (s : State) → Within sys 0 s → start ≡ s
  within_none s w = go w.masks w.short w.reaches
    where
      go : (l : List Mask) → length l ≤ 0 → Reaches sys l s → start ≡ s
      go [] h r = cc
      go (m ∷ ms) h r = absurd (omega arith)

  -- slot 0 holds the start: level 0 is complete
  module _ (at : ℕ → State) (e : at 0 ≡ start) where
    start_sound : (i : ℕ) → i < 1 → Within sys 0 (at i)
    start_sound i h = let z : i ≡ 0 = omega arith in rw (z, e) (within_start sys 0)

    start_full : (s : State) → Within sys 0 s → Holds at 1 s
    start_full s w = record { place = 0; below = omega arith; same = e ∙ within_none s w }

    start_distinct : Distinct at 1
    start_distinct i j hi hj q = omega arith

    start_past : (d : ℕ) → d ≤ 0 → CountAtMost sys d 1
    start_past d h = let z : 0 ≡ d = omega arith in rw z at (start_count)
      where
        start_count : CountAtMost sys 0 1
        start_count = record { count = 1; counts = record { at = at; distinct = start_distinct; each = start_sound; all = start_full }; most = omega arith }

    start_quiet : (l : List Mask) → length l ≤ 0 → Misses sys l → ⊥
    start_quiet [] h w = let r = w.answer in let z : ◌≡◌ {A = ℕ} 0 1 = cc in omega arith
    start_quiet (m ∷ ms) h w = omega arith

    pub start_law : Explored at 0 1 0
    start_law = record {
      order = omega arith;
      distinct = start_distinct;
      sound = start_sound;
      full = start_full;
      closed = λ i h m t q. absurd (omega arith);
      calm = λ i h m t q. omega arith;
      quiet = start_quiet;
      past = start_past;
    }

  -- a level that is hunted: no list of at most d + 1 ticks misses
  pub hunted_lists : {d : ℕ} → Hunted sys d → (l : List Mask) → length l ≤ suc d → Misses sys l → ⊥
  hunted_lists {d} hunted l h w = let (s, m, t, q, e) = miss_within sys d l h w in hunted s q m t e

  -- the hunt begins, goes on by a slot from which no mask misses, and ends
  pub hunt_start : {at : ℕ → State} {lo : ℕ} → Hunting sys at lo lo
  hunt_start = record { calm = λ j l h m t e. omega arith }

  pub hunt_next : {at : ℕ → State} {lo i : ℕ} → Hunting sys at lo i → Calm sys (at i) → Hunting sys at lo (suc i)
  hunt_next {at} {lo} {i} x calm = record { calm = λ j l h. go j l (split_last h) }
    where
      go : (j : ℕ) → lo ≤ j → (j < i) ⊎ (j ≡ i) → Calm sys (at j)
      go j l (inl b) = x.calm j l b
      go j l (inr z) = rw z calm

  pub hunt_law : {at : ℕ → State} {lo hi d : ℕ} → Explored at lo hi d → Hunting sys at lo hi → Hunted sys d
  hunt_law {at} {lo} {hi} x y s w m t e = go (x.full s w)
    where
      go : Holds at hi s → ⊥
      go h = split (dec_lt h.place lo)
        where
          here : step (at h.place) m ≡ Missed t
          here = rw h.same e

          split : Dec (h.place < lo) → ⊥
          split (yes l) = x.calm h.place l m t here
          split (no n) = y.calm h.place (omega arith) h.below m t here

  -- the level is hunted: storing begins, and every pair of the earlier levels was tried
  pub open_law : {at : ℕ → State} {lo hi d : ℕ} → Explored at lo hi d → Hunted sys d → Storing sys at hi hi d (Before lo)
  open_law x hunted = record {
    order = omega arith;
    distinct = x.distinct;
    old = x.sound;
    new = λ i h. within_more sys (omega arith) (x.sound i h);
    full = x.full;
    stored = λ i m h l. x.closed i l m;
    hunted = hunted;
    past = x.past;
  }

  -- a pair is tried when its successor is stored, or it has none
  pub tried_law : {at : ℕ → State} {hi n d : ℕ} {T U : ℕ → Mask → Type 0} → Storing sys at hi n d T
      → ((i : ℕ) (m : Mask) → i < hi → U i m → T i m ⊎ Covered sys at n (at i) m) → Storing sys at hi n d U
  tried_law x more = record {
    order = x.order;
    distinct = x.distinct;
    old = x.old;
    new = x.new;
    full = x.full;
    stored = λ i m h u t e. ⊎_elim (λ y. x.stored i m h y t e) (λ f. f t e) (more i m h u);
    hunted = x.hunted;
    past = x.past;
  }

  -- a successor that is not there yet goes into slot n
  pub push_law : {at at' : ℕ → State} {hi n d : ℕ} {T : ℕ → Mask → Type 0} → Storing sys at hi n d T
      → ((i : ℕ) → i < n → at' i ≡ at i)
      → (i : ℕ) (m : Mask) → i < hi → step (at i) m ≡ Next (at' n) → (Holds at n (at' n) → ⊥)
      → Storing sys at' hi (suc n) d T
  push_law {at} {at'} {hi} {n} {d} x same i m h e absent = record {
    order = (let o = x.order in omega arith);
    distinct = push_distinct x.distinct same absent;
    old = λ j l. rw (same j (low j l)) (x.old j l);
    new = λ j l. fresh j (split_last l);
    full = λ s w. holds_more (omega arith) (λ j l. same j (low j l)) (x.full s w);
    stored = λ j k l u t q. holds_more (omega arith) same (x.stored j k l u t (rw (same j (low j l)) at q));
    hunted = x.hunted;
    past = x.past;
  }
    where
      low : (j : ℕ) → j < hi → j < n
      low j l = let o = x.order in omega arith

      fresh : (j : ℕ) → (j < n) ⊎ (j ≡ n) → Within sys (suc d) (at' j)
      fresh j (inl l) = rw (same j l) (x.new j l)
      fresh j (inr z) = rw z (within_next sys (x.old i h) m e)

  -- every pair is tried: the slots hold all that is reached within d + 1 ticks
  module _ {at : ℕ → State} {hi n d : ℕ} {T : ℕ → Mask → Type 0} (x : Storing sys at hi n d T) (all : (i : ℕ) (m : Mask) → i < hi → T i m) where
    -- a tick from a state within d leads into the slots
    into : (s : State) (m : Mask) (t : State) → Within sys d s → step s m ≡ Next t → Holds at n t
    into s m t w e = go (x.full s w)
      where
        go : Holds at hi s → Holds at n t
        go h = x.stored h.place m h.below (all h.place m h.below) t (rw h.same e)

    pub level_full : (s : State) → Within sys (suc d) s → Holds at n s
    level_full s w = (reach_ind sys P keep base w.masks s w.reaches w.short).1
      where
        P : ℕ → State → Type 0
        P k u = k ≤ suc d → Within sys k u × Holds at n u

        base : P 0 start
        base h = (within_start sys 0, holds_more x.order (λ i l. refl) (x.full start (within_start sys d)))

        keep : (k : ℕ) (u : State) (m : Mask) (t : State) → P k u → step u m ≡ Next t → P (suc k) t
        keep k u m t p e h =
            let q = p (omega arith) in
            (within_next sys q.0 m e, into u m t (within_more sys (omega arith) q.0) e)

    level_past : (e : ℕ) → e ≤ suc d → CountAtMost sys e n
    level_past e h = go (split_last (suc-le-suc h))
      where
        go : (e < suc d) ⊎ (e ≡ suc d) → CountAtMost sys e n
        go (inl l) = let c = x.past e (omega arith) in record { count = c.count; counts = c.counts; most = (let a = c.most in let b = x.order in omega arith) }
        go (inr z) = rw z (record { count = n; counts = record { at = at; distinct = x.distinct; each = x.new; all = level_full }; most = omega arith })

    pub level_law : Explored at hi n (suc d)
    level_law = record {
      order = x.order;
      distinct = x.distinct;
      sound = x.new;
      full = level_full;
      closed = λ i h m. x.stored i m h (all i m h);
      calm = λ i h. x.hunted (at i) (x.old i h);
      quiet = hunted_lists x.hunted;
      past = level_past;
    }
