-- Of a finitely branching system every N(d) exists, and L where some list misses: the numbers of the claim are there.
use mathlib.Core.Path.{◌≡◌, refl, sym, ◌∙◌, ap}
use mathlib.Core.Logic.{◌⊎◌, ⊎_elim}
use mathlib.Core.Logic.◌⊎◌.{inl, inr}
use mathlib.Core.List.Memᴰ
use mathlib.Core.List.{List, [], ◌∷◌, ◌++◌, Memᴰ}
use Prim.Native.Nat.{ℕ, zero, suc, ◌≤◌, ◌<◌}
use native.Mathlib.Omega.{arith}
use native.Mathlib.Decide.{dec_lt}
use lib.ListN.{length, length-append}
use mathlib.Core.Bool.{Bool, true, false}
use Rattle.levels.specs.Verdict.{System, Tick, Within, Misses, Distinct, Holds, Numbered, Counts, Least}
use Rattle.levels.specs.Verdict.Tick.{Next, Missed, Refused}
use Rattle.levels.specs.Levels.{Calm}
use Rattle.levels.proofs.Replay.{within_start, within_next, within_more, miss_snoc, reach_ind}
use Rattle.levels.proofs.Numbered.{split_last, holds_more, push_distinct, extend, extend_low, extend_last}
use Rattle.levels.proofs.Explore.{within_none, start_law, hunted_lists}
use Rattle.levels.proofs.Legal.{FinitelyBranching, calm_legal}

-- s is among the first n, or it is not
dec_holds : {S : Type 0} → Discrete S → (at : ℕ → S) (n : ℕ) (s : S) → Dec (Holds at n s)
dec_holds eq at zero s = no (λ h. let b = h.below in omega arith)
dec_holds eq at (suc n) s = go (dec_holds eq at n s) (eq (at n) s)
  where
    go : Dec (Holds at n s) → Dec (at n ≡ s) → Dec (Holds at (suc n) s)
    go (yes h) d = yes (record { place = h.place; below = (let b = h.below in omega arith); same = h.same })
    go (no nh) (yes e) = yes (record { place = n; below = omega arith; same = e })
    go (no nh) (no ne) = no (λ h. ⊎_elim (λ b. nh (record { place = h.place; below = b; same = h.same })) (λ z. ne (rw z at h.same)) (split_last h.below))

-- the states of a finitely branching system can be told apart
tell : {sys : System} {same : sys.State → sys.State → Bool} {masks : List sys.Mask} → FinitelyBranching sys same masks → Discrete sys.State
tell {sys} {same} finite s t = go (same s t) refl
  where
    go : (b : Bool) → same s t ≡ b → Dec (s ≡ t)
    go true e = yes (finite.equal s t e)
    go false e = no (finite.different s t e)

-- some number of states have the property
record Some {S : Type 0} (P : S → Type 0) : Type 0 where
  count : ℕ
  numbered : Numbered P count

some_iff : {S : Type 0} {P Q : S → Type 0} → ((s : S) → P s → Q s) → ((s : S) → Q s → P s) → Some P → Some Q
some_iff f g x = record {
  count = x.count;
  numbered = record {
    at = x.numbered.at;
    distinct = x.numbered.distinct;
    each = λ i h. f (x.numbered.at i) (x.numbered.each i h);
    all = λ s q. x.numbered.all s (g s q);
  };
}

-- one state more
add : {S : Type 0} {P : S → Type 0} → Discrete S → (t : S) → Some P → Some (λ u. P u ⊎ (t ≡ u))
add {S} {P} eq t x = go (dec_holds eq at n t)
  where
    at : ℕ → S
    at = x.numbered.at

    n : ℕ
    n = x.count

    go : Dec (Holds at n t) → Some (λ u. P u ⊎ (t ≡ u))
    go (yes h) = some_iff {P = P} {Q = λ u. P u ⊎ (t ≡ u)} (λ s p. inl p)
        (λ s q. ⊎_elim (λ p. p) (λ e. let z : at h.place ≡ s = h.same ∙ e in rw z at (x.numbered.each h.place h.below)) q) x
    go (no nh) = record {
      count = suc n;
      numbered = record {
        at = extend at n t;
        distinct = push_distinct' nh;
        each = λ i l. each i (split_last l);
        all = λ s q. ⊎_elim (λ p. holds_more (omega arith) (extend_low at n t) (x.numbered.all s p))
            (λ e. record { place = n; below = omega arith; same = extend_last at n t ∙ e }) q;
      };
    }
      where
        push_distinct' : (Holds at n t → ⊥) → Distinct (extend at n t) (suc n)
        push_distinct' nh = push_distinct x.numbered.distinct (extend_low at n t) (λ h. nh (rw (extend_last at n t) at h))

        each : (i : ℕ) → (i < n) ⊎ (i ≡ n) → P (extend at n t i) ⊎ (t ≡ extend at n t i)
        each i (inl l) = inl (rw (extend_low at n t i l) (x.numbered.each i l))
        each i (inr z) = inr (rw z (sym (extend_last at n t)))

-- what a tick gives, if anything
add_out : {S : Type 0} {P : S → Type 0} → Discrete S → (o : Tick S) → Some P → Some (λ u. P u ⊎ (o ≡ Next u))
add_out {S} {P} eq (Next t) x = some_iff {P = λ u. P u ⊎ (t ≡ u)} {Q = λ u. P u ⊎ (◌≡◌ {A = Tick S} (Next t) (Next u))}
    (λ s q. ⊎_elim (λ p. inl p) (λ e. inr (ap Next e)) q) (λ s q. ⊎_elim (λ p. inl p) (λ e. inr (cc)) q) (add eq t x)
add_out {S} {P} eq (Missed t) x = some_iff {P = P} {Q = λ u. P u ⊎ (◌≡◌ {A = Tick S} (Missed t) (Next u))}
    (λ s p. inl p) (λ s q. ⊎_elim (λ p. p) (λ e. absurd (let z : ◌≡◌ {A = ℕ} 0 1 = cc in omega arith)) q) x
add_out {S} {P} eq Refused x = some_iff {P = P} {Q = λ u. P u ⊎ (◌≡◌ {A = Tick S} Refused (Next u))}
    (λ s p. inl p) (λ s q. ⊎_elim (λ p. p) (λ e. absurd (let z : ◌≡◌ {A = ℕ} 0 1 = cc in omega arith)) q) x

module _ (sys : System) where
  open sys use {State, Mask, start, step}

  -- u is a successor of s under one of the masks of a list
  record Under (s : State) (ms : List Mask) (u : State) : Type 0 where
    mask : Mask
    member : Memᴰ mask ms
    gives : step s mask ≡ Next u

  add_masks : {P : State → Type 0} → Discrete State → (s : State) (ms : List Mask) → Some P → Some (λ u. P u ⊎ Under s ms u)
  add_masks {P} eq s [] x = some_iff {P = P} {Q = λ u. P u ⊎ Under s [] u} (λ u p. inl p) (λ u q. ⊎_elim (λ p. p) (λ y. absurd (Memᴰ.not-nil y.member)) q) x
  add_masks {P} eq s (m ∷ ms) x = some_iff {P = λ u. (P u ⊎ Under s ms u) ⊎ (step s m ≡ Next u)} {Q = λ u. P u ⊎ Under s (m ∷ ms) u}
      (λ u q. ⊎_elim (λ q'. ⊎_elim (λ p. inl p) (λ y. inr (record { mask = y.mask; member = Memᴰ.tail y.member; gives = y.gives })) q')
      (λ e. inr (record { mask = m; member = Memᴰ.head refl; gives = e })) q)
      (λ u q. ⊎_elim (λ p. inl (inl p)) (λ y. back u y (Memᴰ.cases_cons y.member)) q)
      (add_out eq (step s m) (add_masks eq s ms x))
    where
      back : (u : State) (y : Under s (m ∷ ms) u) → (y.mask ≡ m) ⊎ Memᴰ y.mask ms → (P u ⊎ Under s ms u) ⊎ (step s m ≡ Next u)
      back u y (inl e) = inr (rw e at y.gives)
      back u y (inr r) = inl (inr (record { mask = y.mask; member = r; gives = y.gives }))

  record From (at : ℕ → State) (j : ℕ) (ms : List Mask) (u : State) : Type 0 where
    place : ℕ
    below : place < j
    under : Under (at place) ms u

  add_slots : {P : State → Type 0} → Discrete State → (at : ℕ → State) (j : ℕ) (ms : List Mask) → Some P → Some (λ u. P u ⊎ From at j ms u)
  add_slots {P} eq at zero ms x = some_iff {P = P} {Q = λ u. P u ⊎ From at zero ms u} (λ u p. inl p) (λ u q. ⊎_elim (λ p. p) (λ y. absurd (let b = y.below in omega arith)) q) x
  add_slots {P} eq at (suc j) ms x = some_iff {P = λ u. (P u ⊎ From at j ms u) ⊎ Under (at j) ms u} {Q = λ u. P u ⊎ From at (suc j) ms u}
      (λ u q. ⊎_elim (λ q'. ⊎_elim (λ p. inl p) (λ y. inr (record { place = y.place; below = (let b = y.below in omega arith); under = y.under })) q')
      (λ y. inr (record { place = j; below = omega arith; under = y })) q)
      (λ u q. ⊎_elim (λ p. inl (inl p)) (λ y. back u y (split_last y.below)) q)
      (add_masks eq (at j) ms (add_slots eq at j ms x))
    where
      back : (u : State) (y : From at (suc j) ms u) → (y.place < j) ⊎ (y.place ≡ j) → (P u ⊎ From at j ms u) ⊎ Under (at j) ms u
      back u y (inl l) = inl (inr (record { place = y.place; below = l; under = y.under }))
      back u y (inr z) = inr (rw z at y.under)

module _ (sys : System) {same : sys.State → sys.State → Bool} {masks : List sys.Mask} (finite : FinitelyBranching sys same masks) where
  open sys use {State, Mask, start, step}

  -- the states within d + 1 ticks are those within d and their successors
  step_up : {d : ℕ} → Some (Within sys d) → Some (Within sys (suc d))
  step_up {d} x = some_iff {P = Q} {Q = λ u. Within sys (suc d) u}
      (λ u q. ⊎_elim (λ p. within_more sys (omega arith) p) (λ y. within_next sys (x.numbered.each y.place y.below) y.under.mask y.under.gives) q)
      back (add_slots sys (tell finite) x.numbered.at x.count masks x)
    where
      Q : State → Type 0
      Q u = Within sys d u ⊎ From sys x.numbered.at x.count masks u

      P : ℕ → State → Type 0
      P k u = k ≤ suc d → Within sys k u × Q u

      legal : (u : State) (m : Mask) (t : State) → step u m ≡ Next t → Memᴰ m masks
      legal u m t e = ⊎_elim (λ l. l) (λ r. absurd (let z : ◌≡◌ {A = ℕ} 0 1 = cc in omega arith)) (finite.others u m)

      keep : (k : ℕ) (u : State) (m : Mask) (t : State) → P k u → step u m ≡ Next t → P (suc k) t
      keep k u m t p e h =
          let q = p (omega arith) in
          let held = x.numbered.all u (within_more sys (omega arith) q.0) in
          let under : Under sys (x.numbered.at held.place) masks t = record { mask = m; member = legal u m t e; gives = rw held.same e } in
          (within_next sys q.0 m e, inr (record { place = held.place; below = held.below; under = under }))

      back : (u : State) → Within sys (suc d) u → Q u
      back u w = (reach_ind sys P keep (λ h. (within_start sys 0, inl (within_start sys d))) w.masks u w.reaches w.short).1

  some_within : (d : ℕ) → Some (Within sys d)
  some_within zero = record {
    count = 1;
    numbered = record {
      at = λ i. start;
      distinct = λ i j hi hj q. omega arith;
      each = λ i h. within_start sys 0;
      all = λ s w. record { place = 0; below = omega arith; same = within_none sys s w };
    };
  }
  some_within (suc d) = step_up (some_within d)

  -- every N(d) exists
  pub counts_exist : (d : ℕ) → (n : ℕ) × Counts sys d n
  counts_exist d = let x = some_within d in (x.count, x.numbered)

  -- a mask that misses from s
  record MissFrom (s : State) : Type 0 where
    mask : Mask
    next : State
    missed : step s mask ≡ Missed next

  abbrev CalmUnder : State → List Mask → Type 0
  CalmUnder s ms = (m : Mask) → Memᴰ m ms → (t : State) → step s m ≡ Missed t → ⊥

  -- some mask of the list misses from s, or none does
  miss_under : (s : State) (ms : List Mask) → MissFrom s ⊎ CalmUnder s ms
  miss_under s [] = inr (λ m h t e. Memᴰ.not-nil h)
  miss_under s (m ∷ ms) = go (miss_under s ms) (step s m) refl
    where
      none : ((t : State) → step s m ≡ Missed t → ⊥) → CalmUnder s ms → CalmUnder s (m ∷ ms)
      none a b q h t e = ⊎_elim (λ z. a t (rw z at e)) (λ r. b q r t e) (Memᴰ.cases_cons h)

      go : MissFrom s ⊎ CalmUnder s ms → (o : Tick State) → step s m ≡ o → MissFrom s ⊎ CalmUnder s (m ∷ ms)
      go (inl x) o e = inl x
      go (inr x) (Missed t) e = inl (record { mask = m; next = t; missed = e })
      go (inr x) (Next t) e = inr (none (λ u q. let z : ◌≡◌ {A = ℕ} 0 1 = cc in omega arith) x)
      go (inr x) Refused e = inr (none (λ u q. let z : ◌≡◌ {A = ℕ} 0 1 = cc in omega arith) x)

  -- some mask misses from one of the first n states, or none does from any
  record MissAmong (at : ℕ → State) (n : ℕ) : Type 0 where
    place : ℕ
    below : place < n
    miss : MissFrom (at place)

  miss_among : (at : ℕ → State) (n : ℕ) → MissAmong at n ⊎ ((i : ℕ) → i < n → Calm sys (at i))
  miss_among at zero = inr (λ i h m t e. omega arith)
  miss_among at (suc n) = go (miss_among at n) (miss_under (at n) masks)
    where
      go : MissAmong at n ⊎ ((i : ℕ) → i < n → Calm sys (at i)) → MissFrom (at n) ⊎ CalmUnder (at n) masks → MissAmong at (suc n) ⊎ ((i : ℕ) → i < suc n → Calm sys (at i))
      go (inl x) y = inl (record { place = x.place; below = (let h = x.below in omega arith); miss = x.miss })
      go (inr x) (inl y) = inl (record { place = n; below = omega arith; miss = y })
      go (inr x) (inr y) = inr (λ i h. ⊎_elim (λ l. x i l) (λ z. rw z (calm_legal sys (at n) (finite.others (at n)) y)) (split_last h))

  -- no list of at most d ticks misses
  abbrev Quiet : ℕ → Type 0
  Quiet d = (l : List Mask) → length l ≤ d → Misses sys l → ⊥

  -- the states within d ticks: none misses, or a list of d + 1 ticks is a shortest that does
  next_quiet : (d : ℕ) → Quiet d → Quiet (suc d) ⊎ Least sys (suc d)
  next_quiet d quiet = go (miss_among x.numbered.at x.count)
    where
      x : Some (Within sys d)
      x = some_within d

      go : MissAmong x.numbered.at x.count ⊎ ((i : ℕ) → i < x.count → Calm sys (x.numbered.at i)) → Quiet (suc d) ⊎ Least sys (suc d)
      go (inr calm) = inl (hunted_lists sys (λ s w. let h = x.numbered.all s w in rw h.same at (calm h.place h.below)))
      go (inl y) = inr (record { masks = list; long = exactly (dec_lt (length list) (suc d)); misses = missed; least = λ l w. far l w (dec_lt d (length l)) })
        where
          within : Within sys d (x.numbered.at y.place)
          within = x.numbered.each y.place y.below

          list : List Mask
          list = within.masks ++ y.miss.mask ∷ []

          missed : Misses sys list
          missed = record {
            tick = suc (length within.masks);
            state = y.miss.next;
            answer = miss_snoc sys within.masks y.miss.mask within.reaches y.miss.missed;
          }

          exactly : Dec (length list < suc d) → length list ≡ suc d
          exactly (yes h) = absurd (quiet list (omega arith) missed)
          exactly (no nh) = let a = length-append within.masks (y.miss.mask ∷ []) in let b = within.short in omega arith

          far : (l : List Mask) → Misses sys l → Dec (d < length l) → suc d ≤ length l
          far l w (yes h) = h
          far l w (no nh) = absurd (quiet l (omega arith) w)

  quiet_or_least : (d : ℕ) → Quiet d ⊎ ((L : ℕ) × Least sys L)
  quiet_or_least zero = inl (start_law sys (λ i. start) refl).quiet
  quiet_or_least (suc d) = ⊎_elim (λ quiet. ⊎_elim (λ q. inl q) (λ x. inr (suc d, x)) (next_quiet d quiet)) (λ x. inr x) (quiet_or_least d)

  -- where some list misses, L exists
  pub least_exists : (l : List Mask) → Misses sys l → (L : ℕ) × Least sys L
  least_exists l w = ⊎_elim (λ quiet. absurd (quiet l (omega arith) w)) (λ y. y) (quiet_or_least (length l))
