-- The search as a computation over lists, for systems so small that the checker runs it; proofs/Compute.antt shows that its answer is the
-- verdict.
use Rattle.std.specs.Prelude.{Bool, true, false, length, ltb}
use mathlib.Core.List.{List, [], ◌∷◌, ◌++◌}
use Prim.Native.Nat.{ℕ, zero, suc}
use Rattle.levels.specs.Verdict.{System, Tick, Answer}
use Rattle.levels.specs.Verdict.Tick.{Next, Missed, Refused}
use Rattle.levels.specs.Verdict.Answer.{Unsafe, Safe, NoRoom}

-- a state, and a list that reaches it
pub record Node (S M : Type 0) : Type 0 where
  pub state : S
  pub path : List M

-- a list that is one tick longer than a node's, and the answer of that tick
pub record Trial (S M : Type 0) : Type 0 where
  pub path : List M
  pub answer : Tick S

-- what a hunt finds: a list that misses, or none
pub data Hunt (M : Type 0) : Type 0 where
  Miss : List M → Hunt M
  Clear : Hunt M

-- the new nodes of a level, or no room for one
pub data NextLevel (S M : Type 0) : Type 0 where
  Upto : List (Node S M) → NextLevel S M
  Full : NextLevel S M

-- what the computation says: an answer, under Unsafe with the masks; or it was given too few levels
pub data Computed (M : Type 0) : Type 0 where
  Answered : Answer → List M → Computed M
  OutOfFuel : Computed M

-- the trials of a node under some masks
unfoldable pub trials_of : {S M : Type 0} → (S → M → Tick S) → Node S M → List M → List (Trial S M)
trials_of step x [] = []
trials_of step x (m ∷ ms) = record { path = x.path ++ m ∷ []; answer = step x.state m } ∷ trials_of step x ms

-- the trials of a level
unfoldable pub trials : {S M : Type 0} → (S → M → Tick S) → List M → List (Node S M) → List (Trial S M)
trials step masks [] = []
trials step masks (x ∷ xs) = trials_of step x masks ++ trials step masks xs

-- the first trial that misses
abbrev pub hunt_by : {S M : Type 0} → Tick S → List M → Hunt M → Hunt M
hunt_by (Next t) l h = h
hunt_by (Missed t) l h = Miss l
hunt_by Refused l h = h

unfoldable pub hunt : {S M : Type 0} → List (Trial S M) → Hunt M
hunt [] = Clear
hunt (r ∷ rs) = hunt_by r.answer r.path (hunt rs)

-- s is the state of a node
abbrev pub or_else : Bool → Bool → Bool
or_else true b = true
or_else false b = b

unfoldable pub known : {S M : Type 0} → (S → S → Bool) → List (Node S M) → S → Bool
known same [] s = false
known same (x ∷ xs) s = or_else (same x.state s) (known same xs s)

-- the new nodes and one more, where it is not known, if there is room for it
abbrev pub fit_in : {S M : Type 0} → Bool → List (Node S M) → Node S M → NextLevel S M
fit_in true new x = Upto (new ++ x ∷ [])
fit_in false new x = Full

abbrev pub add_by : {S M : Type 0} → Bool → Bool → List (Node S M) → Node S M → NextLevel S M
add_by true room new x = Upto new
add_by false room new x = fit_in room new x

-- a trial's state among the nodes of the levels so far, old, and the new ones
abbrev pub add_state : {S M : Type 0} → (S → S → Bool) → ℕ → List (Node S M) → List (Node S M) → List M → Tick S → NextLevel S M
add_state same K old new l (Next t) = add_by (known same (old ++ new) t) (ltb (length (old ++ new)) K) new (record { state = t; path = l })
add_state same K old new l (Missed t) = Upto new
add_state same K old new l Refused = Upto new

abbrev pub add : {S M : Type 0} → (S → S → Bool) → ℕ → List (Node S M) → NextLevel S M → Trial S M → NextLevel S M
add same K old (Upto new) r = add_state same K old new r.path r.answer
add same K old Full r = Full

unfoldable pub store : {S M : Type 0} → (S → S → Bool) → ℕ → List (Node S M) → NextLevel S M → List (Trial S M) → NextLevel S M
store same K old new [] = new
store same K old new (r ∷ rs) = store same K old (add same K old new r) rs

-- the answer at a level: a miss; no room; nothing new; or what the next level answers
abbrev pub stored_by : {S M : Type 0} → ℕ → List (Node S M) → NextLevel S M → (List (Node S M) → Computed M) → Computed M
stored_by K old Full go = Answered (NoRoom K) []
stored_by K old (Upto []) go = Answered (Safe (length old)) []
stored_by K old (Upto (x ∷ xs)) go = go (x ∷ xs)

abbrev pub hunted_by : {S M : Type 0} → ℕ → ℕ → List (Node S M) → Hunt M → NextLevel S M → (List (Node S M) → Computed M) → Computed M
hunted_by K d old (Miss l) new go = Answered (Unsafe (suc d) (length old)) l
hunted_by K d old Clear new go = stored_by K old new go

module _ (sys : System) (same : sys.State → sys.State → Bool) (masks : List sys.Mask) where
  -- from level d, whose nodes are level and which with those before are old, with fuel for some levels
  unfoldable pub search : ℕ → ℕ → ℕ → List (Node sys.State sys.Mask) → List (Node sys.State sys.Mask) → Computed sys.Mask
  unfolding trials trials_of hunt known store
  search zero K d old level = OutOfFuel
  search (suc fuel) K d old level =
      let rs = trials sys.step masks level in
      hunted_by K d old (hunt rs) (store same K old (Upto []) rs) (λ new. search fuel K (suc d) (old ++ new) new)

  -- the search with K slots
  unfoldable pub computed : ℕ → ℕ → Computed sys.Mask
  unfolding search
  computed fuel K =
      let first : List (Node sys.State sys.Mask) = record { state = sys.start; path = [] } ∷ [] in
      search fuel K 0 first first
