-- From what a search has found to its verdict: a miss, nothing new, no room for one more. And the verdict settles the answer.
use mathlib.Core.Path.{◌≡◌, refl, sym, ◌∙◌, ap}
use mathlib.Core.Logic.{◌⊎◌}
use mathlib.Core.Logic.◌⊎◌.{inl, inr}
use mathlib.Core.List.{List, [], ◌∷◌, ◌++◌}
use Prim.Native.Nat.{ℕ, suc, ◌-◌, ◌≤◌, ◌<◌}
use native.Mathlib.Omega.{arith}
use native.Mathlib.Decide.{dec_lt, dec_le}
use lib.ListN.{length, length-append}
use Rattle.levels.specs.Verdict.{System, Answer, Within, Reached, Misses, Reaches, replay, Holds, Numbered, Counts, CountAtMost, Least, UnsafeIf, SafeIf, Verdict}
use Rattle.levels.specs.Verdict.Tick.{Next, Missed}
use Rattle.levels.specs.Verdict.Replay.{MissedAt}
use Rattle.levels.specs.Verdict.Answer.{Unsafe, Safe, NoRoom}
use Rattle.levels.specs.Levels.{Storing}
use Rattle.levels.proofs.Numbered.{split_last, push_distinct, extend, extend_low, extend_last, no_more, numbered_unique}
use Rattle.levels.proofs.Replay.{within_start, within_next, within_more, reached, miss_snoc, miss_ind, reach_ind}
use Rattle.levels.proofs.Explore.{Explored, hunted_lists, level_full}

module _ (sys : System) where
  open sys use {State, Mask, start, step}

  -- level d is complete, and mask m misses from a state that a list of d ticks reaches: Unsafe, with that list and then m
  pub miss_law : {at : ℕ → State} {lo hi d K : ℕ} → Explored sys at lo hi d → hi ≤ K
      → (path : List Mask) (m : Mask) {s t : State} → length path ≡ d → Reaches sys path s → step s m ≡ Missed t
      → Verdict sys K (Unsafe (suc d) hi) (path ++ m ∷ [])
  miss_law {at} {lo} {hi} {d} {K} x room path m {s} {t} long reaches missed = record {
    unsafe = (λ u. unsafe_if, λ u. tt);
    safe = (λ b. absurd b, λ y. y.none least.masks least.misses);
    no_room = (λ b. absurd b, λ b. b.0 unsafe_if);
    report = record { least = least; count = counts; long = least.long; state = t; missed = replayed };
  }
    where
      -- N(L - 1)
      counts : Counts sys (suc d - 1) hi
      counts =
          let z : suc d - 1 ≡ d = omega arith in
          rw z (record { at = at; distinct = x.distinct; each = x.sound; all = x.full })

      replayed : replay sys (path ++ m ∷ []) ≡ MissedAt (suc d) t
      replayed = miss_snoc sys path m reaches missed ∙ (rw long)

      beyond : (l : List Mask) → Misses sys l → Dec (d < length l) → suc d ≤ length l
      beyond l w (yes h) = h
      beyond l w (no nh) = absurd (x.quiet l (omega arith) w)

      least : Least sys (suc d)
      least = record {
        masks = path ++ m ∷ [];
        long = simp length-append (omega arith);
        misses = record { tick = suc d; state = t; answer = replayed };
        least = λ l w. beyond l w (dec_lt d (length l));
      }

      unsafe_if : UnsafeIf sys K
      unsafe_if = record { L = suc d; least = least; room = record { count = hi; counts = counts; most = room } }

  -- every pair is tried and no slot was filled: the search is at an end
  module _ {at : ℕ → State} {hi d : ℕ} {T : ℕ → Mask → Type 0} (x : Storing sys at hi hi d T) (all : (i : ℕ) (m : Mask) → i < hi → T i m) where
    settle : (s : State) → Within sys (suc d) s → Within sys d s
    settle s w = let h = level_full sys x all s w in rw h.same at (x.old h.place h.below)

    keep_within : (k : ℕ) (s : State) (m : Mask) (t : State) → Within sys d s → step s m ≡ Next t → Within sys d t
    keep_within k s m t w e = settle t (within_next sys w m e)

    pub reached_within : (s : State) → Reached sys s → Within sys d s
    reached_within s r = reach_ind sys (λ k u. Within sys d u) keep_within (within_start sys d) r.masks s r.reaches

    no_miss : (l : List Mask) → Misses sys l → ⊥
    no_miss l w =
        let b = miss_ind sys (λ k u. Within sys d u) keep_within (within_start sys d) l w in
        x.hunted b.state b.holds b.mask b.next b.missed

    counts_from : (e : ℕ) → d ≤ e → Counts sys e hi
    counts_from e h = record {
      at = at;
      distinct = x.distinct;
      each = λ i l. within_more sys h (x.old i l);
      all = λ s w. x.full s (reached_within s (reached sys w));
    }

    every : (K : ℕ) → hi ≤ K → (e : ℕ) → CountAtMost sys e K
    every K room e = go (dec_lt e d)
      where
        go : Dec (e < d) → CountAtMost sys e K
        go (yes l) = let c = x.past e (omega arith) in record { count = c.count; counts = c.counts; most = (let z = c.most in omega arith) }
        go (no nl) = record { count = hi; counts = counts_from e (omega arith); most = room }

    numbered_reached : Numbered (Reached sys) hi
    numbered_reached = record { at = at; distinct = x.distinct; each = λ i l. reached sys (x.old i l); all = λ s r. x.full s (reached_within s r) }

    pub safe_law : (K : ℕ) → hi ≤ K → (trace : List Mask) → Verdict sys K (Safe hi) trace
    safe_law K room trace = record {
      unsafe = (λ b. absurd b, λ u. no_miss u.least.masks u.least.misses);
      safe = (λ u. safe_if, λ u. tt);
      no_room = (λ b. absurd b, λ b. b.1 safe_if);
      report = record {
        all = numbered_reached;
        depth = d;
        count = counts_from d (omega arith);
        greatest = λ e k c. no_more numbered_reached c.at k c.distinct (λ i l. reached sys (c.each i l));
      };
    }
      where
        safe_if : SafeIf sys K
        safe_if = record { none = no_miss; room = every K room }

  -- K slots are full, the level is hunted, and a state more is reached within d + 1 ticks
  module _ {at : ℕ → State} {hi K d : ℕ} {T : ℕ → Mask → Type 0} (x : Storing sys at hi K d T)
      (i : ℕ) (m : Mask) (h : i < hi) (t : State) (e : step (at i) m ≡ Next t) (absent : Holds at K t → ⊥) where
    more_within : (j : ℕ) → j < suc K → Within sys (suc d) (extend at K t j)
    more_within j l = go (split_last l)
      where
        go : (j < K) ⊎ (j ≡ K) → Within sys (suc d) (extend at K t j)
        go (inl b) = rw (extend_low at K t j b) (x.new j b)
        go (inr z) = rw (z, extend_last at K t) (within_next sys (x.old i h) m e)

    -- K + 1 states are within every greater number of ticks
    too_many : (b : ℕ) → suc d ≤ b → CountAtMost sys b K → ⊥
    too_many b l c =
        let apart = push_distinct x.distinct (extend_low at K t) (λ q. absent (rw (extend_last at K t) at q)) in
        let z = no_more c.counts (extend at K t) (suc K) apart (λ j y. within_more sys l (more_within j y)) in
        let y = c.most in omega arith

    pub room_law : (trace : List Mask) → Verdict sys K (NoRoom K) trace
    room_law trace = record {
      unsafe = (λ b. absurd b, not_unsafe);
      safe = (λ b. absurd b, not_safe);
      no_room = (λ u. (not_unsafe, not_safe), λ u. tt);
      report = refl;
    }
      where
        not_safe : SafeIf sys K → ⊥
        not_safe s = too_many (suc d) (omega arith) (s.room (suc d))

        late : (L : ℕ) → Least sys L → Dec (L ≤ suc d) → suc d ≤ L - 1
        late L w (yes l) = absurd (hunted_lists sys x.hunted w.masks (let z = w.long in omega arith) w.misses)
        late L w (no nl) = omega arith

        not_unsafe : UnsafeIf sys K → ⊥
        not_unsafe u = too_many (u.L - 1) (late u.L u.least (dec_le u.L (suc d))) u.room

  -- L is one number
  pub least_unique : {L M : ℕ} → Least sys L → Least sys M → L ≡ M
  least_unique {L} {M} a b =
      let p : L ≤ length b.masks = a.least b.masks b.misses in
      let q : M ≤ length a.masks = b.least a.masks a.misses in
      let u = a.long in let v = b.long in omega arith

  -- for one K the verdict settles the answer: its kind, L and the count
  pub verdict_unique : {K : ℕ} (a b : Answer) (s t : List Mask) → Verdict sys K a s → Verdict sys K b t → a ≡ b
  verdict_unique (Unsafe L n) (Unsafe M k) s t x y =
      let e : L ≡ M = least_unique x.report.least y.report.least in
      let f : n ≡ k = numbered_unique x.report.count (rw e y.report.count) in
      rw (e, f)
  verdict_unique (Unsafe L n) (Safe k) s t x y = absurd (y.unsafe.1 (x.unsafe.0 tt))
  verdict_unique (Unsafe L n) (NoRoom k) s t x y = absurd (y.unsafe.1 (x.unsafe.0 tt))
  verdict_unique (Safe n) (Unsafe L k) s t x y = absurd (y.safe.1 (x.safe.0 tt))
  verdict_unique (Safe n) (Safe k) s t x y = ap Safe (numbered_unique x.report.all y.report.all)
  verdict_unique (Safe n) (NoRoom k) s t x y = absurd (y.safe.1 (x.safe.0 tt))
  verdict_unique (NoRoom n) (Unsafe L k) s t x y = absurd (y.no_room.1 (x.no_room.0 tt))
  verdict_unique (NoRoom n) (Safe k) s t x y = absurd (y.no_room.1 (x.no_room.0 tt))
  verdict_unique (NoRoom n) (NoRoom k) s t x y = ap NoRoom (x.report ∙ sym y.report)

  -- a set of states that has the start, and that no tick leaves or misses from: no list misses
  pub closed_law : (P : State → Type 0) → P start → ((s : State) (m : Mask) (t : State) → P s → step s m ≡ Next t → P t)
      → ((s : State) (m : Mask) (t : State) → P s → step s m ≡ Missed t → ⊥) → (l : List Mask) → Misses sys l → ⊥
  closed_law P base keep calm l w =
      let b = miss_ind sys (λ k s. P s) (λ k s m t p e. keep s m t p e) base l w in
      calm b.state b.mask b.next b.holds b.missed
