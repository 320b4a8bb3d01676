-- The computation is right: what it answers is the verdict, and under Unsafe its masks are a list that misses.
use mathlib.Core.Path.{◌≡◌, refl, sym, ◌∙◌, ap}
use mathlib.Core.Logic.{◌⊎◌, ⊎_elim}
use mathlib.Core.Logic.◌⊎◌.{inl, inr}
use mathlib.Core.Bool.{Bool, true, false}
use mathlib.Core.List.{List, [], ◌∷◌, ◌++◌, append_assoc, append-nil, Memᴰ}
use Prim.Native.Nat.{ℕ, zero, suc, ◌+◌, ◌-◌, ◌≤◌, ◌<◌}
use native.Mathlib.Omega.{arith}
use native.Mathlib.Decide.{dec_lt}
use lib.ListN.{length, get_or, length-append, get_or-append}
use lib.Seq.{get_or-append-add, get_or-append_seam}
use lib.Dec.{ltb}
use borrow.Author.Tests.{ltb-true, ltb-false}
use Rattle.levels.specs.Verdict.{System, Tick, Answer, Reaches, Holds, Verdict}
use Rattle.levels.specs.Verdict.Tick.{Next, Missed, Refused}
use Rattle.levels.specs.Verdict.Answer.{Unsafe, Safe, NoRoom}
use Rattle.levels.specs.Levels.{Before, Calm, Hunted, Covered, Storing}
use Rattle.levels.specs.Compute.{Node, Trial, Hunt, NextLevel, Computed, trials_of, trials, hunt_by, hunt, or_else, known, add_by, add_state, store, stored_by, hunted_by, search, computed}
use Rattle.levels.specs.Compute.Hunt.{Miss, Clear}
use Rattle.levels.specs.Compute.NextLevel.{Upto, Full}
use Rattle.levels.specs.Compute.Computed.{Answered, OutOfFuel}
use Rattle.levels.proofs.Numbered.{holds_more}
use Rattle.levels.proofs.Replay.{reach_snoc}
use Rattle.levels.proofs.Explore.{Explored, start_law, hunt_law, open_law, tried_law, push_law, level_law}
use Rattle.levels.proofs.Legal.{FinitelyBranching, calm_legal, covered_legal}
use Rattle.levels.proofs.Verdicts.{miss_law, safe_law, room_law}

-- a node under a mask
abbrev trial : {S M : Type 0} → (S → M → Tick S) → Node S M → M → Trial S M
trial step x m = record { path = x.path ++ m ∷ []; answer = step x.state m }

-- a trial is of some node under some mask
record Of {S M : Type 0} (step : S → M → Tick S) (xs : List (Node S M)) (r : Trial S M) : Type 0 where
  node : Node S M
  member : Memᴰ node xs
  mask : M
  is : r ≡ trial step node mask

of_one : {S M : Type 0} (step : S → M → Tick S) (x : Node S M) (ms : List M) (r : Trial S M) → Memᴰ r (trials_of step x ms) → (m : M) × (r ≡ trial step x m)
unfolding trials_of
of_one step x [] r h = absurd (mathlib.Core.List.Memᴰ.not-nil h)
of_one step x (m ∷ ms) r h = ⊎_elim (λ e. (m, e)) (λ t. of_one step x ms r t) (mathlib.Core.List.Memᴰ.cases_cons h)

of_level : {S M : Type 0} (step : S → M → Tick S) (masks : List M) (xs : List (Node S M)) (r : Trial S M) → Memᴰ r (trials step masks xs) → Of step xs r
unfolding trials
of_level step masks [] r h = absurd (mathlib.Core.List.Memᴰ.not-nil h)
of_level step masks (x ∷ xs) r h = ⊎_elim
    (λ a. let y = of_one step x masks r a in record { node = x; member = mathlib.Core.List.Memᴰ.head refl; mask = y.0; is = y.1 })
    (λ b. let y = of_level step masks xs r b in record { node = y.node; member = mathlib.Core.List.Memᴰ.tail y.member; mask = y.mask; is = y.is })
    (mathlib.Core.List.Memᴰ.append_cases (trials_of step x masks) h)

-- each node is tried under each mask of the list
in_one : {S M : Type 0} (step : S → M → Tick S) (x : Node S M) (ms : List M) (m : M) → Memᴰ m ms → Memᴰ (trial step x m) (trials_of step x ms)
unfolding trials_of
in_one step x [] m h = absurd (mathlib.Core.List.Memᴰ.not-nil h)
in_one step x (n ∷ ms) m h = ⊎_elim (λ e. mathlib.Core.List.Memᴰ.head (rw e)) (λ t. mathlib.Core.List.Memᴰ.tail (in_one step x ms m t)) (mathlib.Core.List.Memᴰ.cases_cons h)

in_level : {S M : Type 0} (step : S → M → Tick S) (masks : List M) (xs : List (Node S M)) (x : Node S M) (m : M)
    → Memᴰ x xs → Memᴰ m masks → Memᴰ (trial step x m) (trials step masks xs)
unfolding trials
in_level step masks [] x m h k = absurd (mathlib.Core.List.Memᴰ.not-nil h)
in_level step masks (y ∷ xs) x m h k = ⊎_elim
    (λ e. let here : Memᴰ (trial step x m) (trials_of step y masks) = (rw e (in_one step y masks m k)) in mathlib.Core.List.Memᴰ.append_left (trials step masks xs) here)
    (λ t. mathlib.Core.List.Memᴰ.append_right (trials_of step y masks) (in_level step masks xs x m t k))
    (mathlib.Core.List.Memᴰ.cases_cons h)

-- a hunt that is clear, and one that found a miss
hunt_clear : {S M : Type 0} (rs : List (Trial S M)) → hunt rs ≡ Clear → (r : Trial S M) → Memᴰ r rs → (t : S) → r.answer ≡ Missed t → ⊥
unfolding hunt
hunt_clear [] e r h t q = mathlib.Core.List.Memᴰ.not-nil h
hunt_clear {S} {M} (x ∷ xs) e r h t q = go (hunt_clear xs) x.answer refl e (mathlib.Core.List.Memᴰ.cases_cons h)
  where
    go : (hunt xs ≡ Clear → (r : Trial S M) → Memᴰ r xs → (t : S) → r.answer ≡ Missed t → ⊥)
        → (o : Tick S) → x.answer ≡ o → hunt_by o x.path (hunt xs) ≡ Clear → (r ≡ x) ⊎ Memᴰ r xs → ⊥
    go ih (Next u) z e' (inl y) = let w : ◌≡◌ {A = ℕ} 0 1 = cc (ap (λ (a : Trial S M). a.answer) y) in omega arith
    go ih (Next u) z e' (inr y) = ih e' r y t q
    go ih (Missed u) z e' y = let w : ◌≡◌ {A = ℕ} 0 1 = cc in omega arith
    go ih Refused z e' (inl y) = let w : ◌≡◌ {A = ℕ} 0 1 = cc (ap (λ (a : Trial S M). a.answer) y) in omega arith
    go ih Refused z e' (inr y) = ih e' r y t q

record Missing {S M : Type 0} (rs : List (Trial S M)) (l : List M) : Type 0 where
  found : Trial S M
  member : Memᴰ found rs
  path : found.path ≡ l
  state : S
  missed : found.answer ≡ Missed state

hunt_miss : {S M : Type 0} (rs : List (Trial S M)) (l : List M) → hunt rs ≡ Miss l → Missing rs l
unfolding hunt
hunt_miss [] l e = absurd (let w : ◌≡◌ {A = ℕ} 0 1 = cc in omega arith)
hunt_miss {S} {M} (x ∷ xs) l e = go (hunt_miss xs l) x.answer refl e
  where
    later : Missing xs l → Missing (x ∷ xs) l
    later y = record { found = y.found; member = mathlib.Core.List.Memᴰ.tail y.member; path = y.path; state = y.state; missed = y.missed }

    go : (hunt xs ≡ Miss l → Missing xs l) → (o : Tick S) → x.answer ≡ o → hunt_by o x.path (hunt xs) ≡ Miss l → Missing (x ∷ xs) l
    go ih (Next u) z e' = later (ih e')
    go ih (Missed u) z e' = record { found = x; member = mathlib.Core.List.Memᴰ.head refl; path = cc; state = u; missed = z }
    go ih Refused z e' = later (ih e')

-- no room stays no room
store_full : {S M : Type 0} (same : S → S → Bool) (K : ℕ) (old : List (Node S M)) (rs : List (Trial S M)) → store same K old Full rs ≡ Full
unfolding store
store_full same K old [] = refl
store_full same K old (r ∷ rs) = store_full same K old rs

module _ (sys : System) where
  open sys use {State, Mask, start, step}

  abbrev first : Node State Mask
  first = record { state = start; path = [] }

  -- the nodes numbered, as slots are
  abbrev at : List (Node State Mask) → ℕ → State
  at xs i = (get_or xs i first).state

  -- s is the state of a node
  abbrev In : List (Node State Mask) → State → Type 0
  In xs s = Holds (at xs) (length xs) s

  -- a node's list is of d ticks and reaches its state
  abbrev Good : ℕ → Node State Mask → Type 0
  Good d x = (length x.path ≡ d) × Reaches sys x.path x.state

  place_mem : (xs : List (Node State Mask)) (j : ℕ) → j < length xs → Memᴰ (get_or xs j first) xs
  place_mem [] j h = absurd (omega arith)
  place_mem (x ∷ xs) zero h = mathlib.Core.List.Memᴰ.head refl
  place_mem (x ∷ xs) (suc j) h = mathlib.Core.List.Memᴰ.tail (place_mem xs j (omega arith))

  mem_place : (xs : List (Node State Mask)) (x : Node State Mask) → Memᴰ x xs → In xs x.state
  mem_place [] x h = absurd (mathlib.Core.List.Memᴰ.not-nil h)
  mem_place (y ∷ xs) x h = ⊎_elim (λ e. record { place = 0; below = omega arith; same = rw e })
      (λ t. let z = mem_place xs x t in record { place = suc z.place; below = (let b = z.below in omega arith); same = z.same }) (mathlib.Core.List.Memᴰ.cases_cons h)

  at_front : (xs ys : List (Node State Mask)) (i : ℕ) → i < length xs → at (xs ++ ys) i ≡ at xs i
  at_front xs ys i h = ap (λ (x : Node State Mask). x.state) (get_or-append xs ys first i h)

  at_back : (xs ys : List (Node State Mask)) (i : ℕ) → at (xs ++ ys) (length xs + i) ≡ at ys i
  at_back xs ys i = ap (λ (x : Node State Mask). x.state) (get_or-append-add xs ys i first)

  -- before the search of a level
  record Ready (K d : ℕ) (old level : List (Node State Mask)) : Type 0 where
    before : List (Node State Mask)
    split : old ≡ before ++ level
    explored : Explored sys (at old) (length before) (length old) d
    good : (x : Node State Mask) → Memᴰ x level → Good d x
    room : length old ≤ K

  ready_start : (K : ℕ) → 1 ≤ K → Ready K 0 (first ∷ []) (first ∷ [])
  ready_start K h = record {
    before = [];
    split = refl;
    explored = start_law sys (at (first ∷ [])) refl;
    good = λ x m. ⊎_elim (λ e. rw e (refl, refl)) (λ b. absurd (mathlib.Core.List.Memᴰ.not-nil b)) (mathlib.Core.List.Memᴰ.cases_cons m);
    room = h;
  }

  -- while its trials are stored
  record Fill (K d lo : ℕ) (old new : List (Node State Mask)) : Type 0 where
    storing : Storing sys (at (old ++ new)) (length old) (length (old ++ new)) d (Before lo)
    good : (x : Node State Mask) → Memᴰ x new → Good (suc d) x
    room : length (old ++ new) ≤ K

  -- what is known of a trial
  record Sound (d : ℕ) (old : List (Node State Mask)) (r : Trial State Mask) : Type 0 where
    place : ℕ
    below : place < length old
    mask : Mask
    gives : step (at old place) mask ≡ r.answer
    long : length r.path ≡ suc d
    reaches : (t : State) → r.answer ≡ Next t → Reaches sys r.path t

  -- the trial's state, if it has one, is among the nodes
  abbrev Done : List (Node State Mask) → Trial State Mask → Type 0
  Done xs r = (t : State) → r.answer ≡ Next t → In xs t

  sound_trial : {K d : ℕ} {old level : List (Node State Mask)} → Ready K d old level → (r : Trial State Mask) → Of step level r → Sound d old r
  sound_trial {K} {d} {old} {level} x r o = rw o.is (record {
    place = length x.before + h.place;
    below = rw (x.split, length-append) (let b = h.below in omega arith);
    mask = o.mask;
    gives = ap (λ (s : State). step s o.mask) (rw x.split (at_back x.before level h.place ∙ h.same));
    long = simp length-append (let l = g.0 in omega arith);
    reaches = λ t e. reach_snoc sys o.node.path o.mask g.1 e;
  })
    where
      h : In level o.node.state
      h = mem_place level o.node o.member

      g : Good d o.node
      g = x.good o.node o.member

  -- a slot of the level is a node of the level
  level_node : {K d : ℕ} {old level : List (Node State Mask)} (x : Ready K d old level) (j : ℕ) → length x.before ≤ j → j < length old
      → (y : Node State Mask) × Memᴰ y level × (at old j ≡ y.state)
  level_node {K} {d} {old} {level} x j l h = (get_or level (j - length x.before) first, place_mem level (j - length x.before) below, same)
    where
      long : length old ≡ length x.before + length level
      long = rw x.split (length-append x.before level)

      below : j - length x.before < length level
      below = let e = long in omega arith

      same : at old j ≡ at level (j - length x.before)
      same =
          let z : length x.before + (j - length x.before) ≡ j = omega arith in
          rw x.split (rw z at (at_back x.before level (j - length x.before)))

module _ (sys : System) (same : sys.State → sys.State → Bool) (masks : List sys.Mask) (finite : FinitelyBranching sys same masks) where
  open sys use {State, Mask, start, step}

  known_yes : (xs : List (Node State Mask)) (s : State) → known same xs s ≡ true → In sys xs s
  unfolding known
  known_yes [] s e = absurd (let w : ◌≡◌ {A = ℕ} 0 1 = cc in omega arith)
  known_yes (x ∷ xs) s e = go (known_yes xs s) (same x.state s) refl e
    where
      go : (known same xs s ≡ true → In sys xs s) → (b : Bool) → same x.state s ≡ b → or_else b (known same xs s) ≡ true
          → In sys (x ∷ xs) s
      go ih true q e' = record { place = 0; below = omega arith; same = finite.equal x.state s q }
      go ih false q e' = let h = ih e' in record { place = suc h.place; below = (let b = h.below in omega arith); same = h.same }

  known_no : (xs : List (Node State Mask)) (s : State) → known same xs s ≡ false → In sys xs s → ⊥
  unfolding known
  known_no [] s e h = let b = h.below in omega arith
  known_no (x ∷ xs) s e h = go (known_no xs s) (same x.state s) refl e h.place h.below h.same
    where
      go : (known same xs s ≡ false → In sys xs s → ⊥) → (b : Bool) → same x.state s ≡ b → or_else b (known same xs s) ≡ false
          → (i : ℕ) → i < length (x ∷ xs) → at sys (x ∷ xs) i ≡ s → ⊥
      go ih true q e' i l z = let w : ◌≡◌ {A = ℕ} 0 1 = cc in omega arith
      go ih false q e' zero l z = finite.different x.state s q z
      go ih false q e' (suc i) l z = ih e' (record { place = i; below = omega arith; same = z })

  module _ (K d lo : ℕ) (old : List (Node State Mask)) where
    -- what becomes of the new nodes
    abbrev Added : List (Node State Mask) → Trial State Mask → NextLevel State Mask → Type 0
    Added new r (Upto new') = Fill sys K d lo old new' × Done sys (old ++ new') r × ((s : State) → In sys (old ++ new) s → In sys (old ++ new') s)
    Added new r Full = (trace : List Mask) → Verdict sys K (NoRoom K) trace

    added_law : (new : List (Node State Mask)) (r : Trial State Mask) → Fill sys K d lo old new → Sound sys d old r → Added new r (add_state same K old new r.path r.answer)
    added_law new r x y = go r.answer refl
      where
        here : at sys (old ++ new) y.place ≡ at sys old y.place
        here = at_front sys old new y.place y.below

        go : (o : Tick State) → r.answer ≡ o → Added new r (add_state same K old new r.path o)
        go (Missed t) e = (x, (λ u q. absurd (let w : ◌≡◌ {A = ℕ} 0 1 = cc in omega arith)), λ s h. h)
        go Refused e = (x, (λ u q. absurd (let w : ◌≡◌ {A = ℕ} 0 1 = cc in omega arith)), λ s h. h)
        go (Next t) e = by (known same (old ++ new) t) refl (ltb (length (old ++ new)) K) refl
          where
            node : Node State Mask
            node = record { state = t; path = r.path }

            step_here : step (at sys (old ++ new) y.place) y.mask ≡ Next t
            step_here = rw here (y.gives ∙ e)

            joined : old ++ (new ++ node ∷ []) ≡ (old ++ new) ++ node ∷ []
            joined = sym (append_assoc old new (node ∷ []))

            longer : length (old ++ (new ++ node ∷ [])) ≡ suc (length (old ++ new))
            longer = rw joined (length-append (old ++ new) (node ∷ []) ∙ (omega arith))

            front : (i : ℕ) → i < length (old ++ new) → at sys (old ++ (new ++ node ∷ [])) i ≡ at sys (old ++ new) i
            front i h = rw joined (at_front sys (old ++ new) (node ∷ []) i h)

            last : at sys (old ++ (new ++ node ∷ [])) (length (old ++ new)) ≡ t
            last = rw joined (ap (λ (z : Node State Mask). z.state) (get_or-append_seam (old ++ new) node [] (first sys)))

            by : (b : Bool) → known same (old ++ new) t ≡ b → (c : Bool) → ltb (length (old ++ new)) K ≡ c → Added new r (add_by b c new node)
            by true k c q = (x, (λ u z. let w : t ≡ u = cc in rw w at (known_yes (old ++ new) t k)), λ s h. h)
            by false k true q = (
              record {
                storing = rw longer (push_law sys x.storing front y.place y.mask y.below (rw last step_here) (λ h. known_no (old ++ new) t k (rw last at h)));
                good = λ z m. ⊎_elim (λ a. x.good z a) (λ b. let w : z ≡ node = mathlib.Core.List.Memᴰ.eq_of_singleton b in rw w (y.long, y.reaches t e)) (mathlib.Core.List.Memᴰ.append_cases new m);
                room = rw longer (ltb-true (length (old ++ new)) K q);
              },
              (λ u z. let w : t ≡ u = cc in record { place = length (old ++ new); below = rw longer (omega arith); same = last ∙ w }),
              λ s h. holds_more (rw longer (omega arith)) front h,
            )
            by false k false q =
                let z : length (old ++ new) ≡ K = (let a = ltb-false (length (old ++ new)) K q in let b = x.room in omega arith) in
                room_law sys (rw z at x.storing) y.place y.mask y.below t step_here (rw z at (known_no (old ++ new) t k))

    -- .. by all trials of a level
    abbrev Filled : List (Node State Mask) → List (Trial State Mask) → NextLevel State Mask → Type 0
    Filled new rs (Upto new') = Fill sys K d lo old new' × ((r : Trial State Mask) → Memᴰ r rs → Done sys (old ++ new') r)
        × ((s : State) → In sys (old ++ new) s → In sys (old ++ new') s)
    Filled new rs Full = (trace : List Mask) → Verdict sys K (NoRoom K) trace

    store_law : (rs : List (Trial State Mask)) (new : List (Node State Mask)) → Fill sys K d lo old new → ((r : Trial State Mask) → Memᴰ r rs → Sound sys d old r)
        → Filled new rs (store same K old (Upto new) rs)
    unfolding store
    store_law [] new x sound = (x, (λ r h. absurd (mathlib.Core.List.Memᴰ.not-nil h)), λ s h. h)
    store_law (r ∷ rs) new x sound = go (store_law rs) (add_state same K old new r.path r.answer) (added_law new r x (sound r (mathlib.Core.List.Memᴰ.head refl)))
      where
        go : ((new : List (Node State Mask)) → Fill sys K d lo old new → ((q : Trial State Mask) → Memᴰ q rs → Sound sys d old q) → Filled new rs (store same K old (Upto new) rs))
            → (l : NextLevel State Mask) → Added new r l → Filled new (r ∷ rs) (store same K old l rs)
        go ih Full y = rw (store_full same K old rs) y
        go ih (Upto new₁) y = then (store same K old (Upto new₁) rs) (ih new₁ y.0 (λ q h. sound q (mathlib.Core.List.Memᴰ.tail h)))
          where
            then : (l : NextLevel State Mask) → Filled new₁ rs l → Filled new (r ∷ rs) l
            then Full z = z
            then (Upto new₂) z = (
              z.0,
              (λ q h. ⊎_elim (λ e. λ t a. z.2 t (y.1 t (rw e at a))) (λ m. z.1 q m) (mathlib.Core.List.Memᴰ.cases_cons h)),
              λ s h. z.2 s (y.2 s h),
            )

  module _ (K : ℕ) where
    -- one level
    module _ {d : ℕ} {old level : List (Node State Mask)} (x : Ready sys K d old level) where
      sound : (r : Trial State Mask) → Memᴰ r (trials step masks level) → Sound sys d old r
      sound r h = sound_trial sys x r (of_level step masks level r h)

      miss_found : (l : List Mask) → hunt (trials step masks level) ≡ Miss l → Verdict sys K (Unsafe (suc d) (length old)) l
      miss_found l e =
          let y = hunt_miss (trials step masks level) l e in
          let o = of_level step masks level y.found y.member in
          let g = x.good o.node o.member in
          let is : l ≡ o.node.path ++ o.mask ∷ [] = sym y.path ∙ ap (λ (r : Trial State Mask). r.path) o.is in
          let missed : step o.node.state o.mask ≡ Missed y.state = sym (ap (λ (r : Trial State Mask). r.answer) o.is) ∙ y.missed in
          rw is (miss_law sys x.explored x.room o.node.path o.mask g.0 g.1 missed)

      hunted : hunt (trials step masks level) ≡ Clear → Hunted sys d
      hunted e = hunt_law sys x.explored (record { calm = λ j l h. go (level_node sys x j l h) })
        where
          go : {s : State} → ((y : Node State Mask) × Memᴰ y level × (s ≡ y.state)) → Calm sys s
          go y = rw y.2 (calm_legal sys y.0.state (finite.others y.0.state) (λ m k t q. hunt_clear (trials step masks level) e (trial step y.0 m) (in_level step masks level y.0 m y.1 k) t q))

      filling : hunt (trials step masks level) ≡ Clear → Fill sys K d (length x.before) old []
      filling e = record {
        storing = rw (append-nil old) (open_law sys x.explored (hunted e));
        good = λ y m. absurd (mathlib.Core.List.Memᴰ.not-nil m);
        room = rw (append-nil old) x.room;
      }

      -- every pair is tried
      complete : (new : List (Node State Mask)) → Fill sys K d (length x.before) old new → ((r : Trial State Mask) → Memᴰ r (trials step masks level) → Done sys (old ++ new) r)
          → Storing sys (at sys (old ++ new)) (length old) (length (old ++ new)) d (Before (length old))
      complete new y done = tried_law sys y.storing (λ i m h u. go i m h (dec_lt i (length x.before)))
        where
          go : (i : ℕ) (m : Mask) → i < length old → Dec (i < length x.before) → (i < length x.before) ⊎ Covered sys (at sys (old ++ new)) (length (old ++ new)) (at sys (old ++ new) i) m
          go i m h (yes l) = inl l
          go i m h (no nl) =
              let y = level_node sys x i (omega arith) h in
              let e : at sys (old ++ new) i ≡ y.0.state = at_front sys old new i h ∙ y.2 in
              inr (rw e (covered_legal sys y.0.state (finite.others y.0.state) (λ q k. done (trial step y.0 q) (in_level step masks level y.0 q y.1 k)) m))

      safe_found : Fill sys K d (length x.before) old [] → ((r : Trial State Mask) → Memᴰ r (trials step masks level) → Done sys (old ++ []) r) → (trace : List Mask) → Verdict sys K (Safe (length old)) trace
      safe_found y done trace = safe_law sys (rw (append-nil old) at (complete [] y done)) (λ i m h. h) K x.room trace

      ready_next : (new : List (Node State Mask)) → Fill sys K d (length x.before) old new → ((r : Trial State Mask) → Memᴰ r (trials step masks level) → Done sys (old ++ new) r)
          → Ready sys K (suc d) (old ++ new) new
      ready_next new y done = record {
        before = old;
        split = refl;
        explored = level_law sys (complete new y done) (λ i m h. h);
        good = y.good;
        room = y.room;
      }

    -- the verdict, or no answer after b levels and nodes
    abbrev Right : ℕ → Computed Mask → Type 0
    Right b (Answered a trace) = Verdict sys K a trace
    Right b OutOfFuel = b ≤ K

    right_more : {b c : ℕ} → b ≤ c → (o : Computed Mask) → Right c o → Right b o
    right_more h (Answered a trace) x = x
    right_more h OutOfFuel x = omega arith

    -- each level but the last adds a node, and there are at most K
    search_right : (fuel : ℕ) {d : ℕ} {old level : List (Node State Mask)} → Ready sys K d old level → Right (fuel + length old) (search sys same masks fuel K d old level)
    unfolding search
    search_right zero x = let r = x.room in omega arith
    search_right (suc fuel) {d} {old} {level} x = go (λ new y. search_right fuel {d = suc d} {old = old ++ new} {level = new} y) (hunt (trials step masks level)) refl
      where
        go : ((new : List (Node State Mask)) → Ready sys K (suc d) (old ++ new) new → Right (fuel + length (old ++ new)) (search sys same masks fuel K (suc d) (old ++ new) new))
            → (h : Hunt Mask) → hunt (trials step masks level) ≡ h
            → Right (suc fuel + length old) (hunted_by K d old h (store same K old (Upto []) (trials step masks level)) (λ new. search sys same masks fuel K (suc d) (old ++ new) new))
        go ih (Miss l) e = miss_found x l e
        go ih Clear e = then (store same K old (Upto []) (trials step masks level)) (store_law K d (length x.before) old (trials step masks level) [] (filling x e) (sound x))
          where
            then : (l : NextLevel State Mask) → Filled K d (length x.before) old [] (trials step masks level) l
                → Right (suc fuel + length old) (stored_by K old l (λ new. search sys same masks fuel K (suc d) (old ++ new) new))
            then Full y = y []
            then (Upto []) y = safe_found x y.0 y.1 []
            then (Upto (n ∷ ns)) y = right_more (rw length-append (omega arith)) (search sys same masks fuel K (suc d) (old ++ n ∷ ns) (n ∷ ns)) (ih (n ∷ ns) (ready_next x (n ∷ ns) y.0 y.1))

    -- the computation's answer is the verdict
    pub computed_right : 1 ≤ K → (fuel : ℕ) (a : Answer) (trace : List Mask) → computed sys same masks fuel K ≡ Answered a trace → Verdict sys K a trace
    unfolding computed
    computed_right h fuel a trace e = rw e at (search_right fuel (ready_start sys K h))

    -- fuel for K levels is enough
    pub computed_ends : 1 ≤ K → (fuel : ℕ) → K ≤ fuel → computed sys same masks fuel K ≡ OutOfFuel → ⊥
    unfolding computed
    computed_ends h fuel l e = let z : fuel + 1 ≤ K = (rw e at (search_right fuel (ready_start sys K h))) in omega arith

    -- so for every K there is a verdict
    pub verdict_exists : 1 ≤ K → (a : Answer) × (trace : List Mask) × Verdict sys K a trace
    verdict_exists h = go (computed sys same masks K K) refl
      where
        go : (o : Computed Mask) → computed sys same masks K K ≡ o → (a : Answer) × (trace : List Mask) × Verdict sys K a trace
        go (Answered a trace) e = (a, trace, computed_right h K a trace e)
        go OutOfFuel e = absurd (computed_ends h K (omega arith) e)
