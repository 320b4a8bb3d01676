-- What a search must answer (demand 3; document 01, "Replay" and "The search"), of any system of states and ticks.
-- This is the file to believe, and of the slots Slots.antt: the claim is `Verdict`, at the end. Nothing here knows what a state or a mask
-- is.
use Rattle.std.specs.Prelude.{◌≡◌, ◌↔◌, List, [], ◌∷◌, ℕ, suc, ◌-◌, ◌≤◌, ◌<◌, length}

-- "One tick": the answer is the next state, or Missed with the state, or a refusal
pub data Tick (S : Type 0) : Type 0 where
  Next : S → Tick S
  Missed : S → Tick S
  Refused : Tick S

-- a transition system: its states, the masks of a tick, the start state and one tick
pub record System : Type 1 where
  pub State : Type 0
  pub Mask : Type 0
  pub start : State
  pub step : State → Mask → Tick State

-- "Replay", the answers: Kept with the last state; Missed with the tick's number and state; refused with the tick's number
pub data Replay (S : Type 0) : Type 0 where
  Kept : S → Replay S
  MissedAt : ℕ → S → Replay S
  RefusedAt : ℕ → Replay S

-- after k ticks one more is answered: go on from its state, or stop with its number, later masks unread
abbrev pub go_on : {S : Type 0} → ℕ → Tick S → (S → Replay S) → Replay S
go_on k (Next s) go = go s
go_on k (Missed s) go = MissedAt (suc k) s
go_on k Refused go = RefusedAt (suc k)

module _ (sys : System) where
  open sys use {State, Mask, start, step}

  -- a list played from s, after k ticks. A list is any finite series of masks, legal or not; its ticks are its length, read or unread
  abbrev pub replay_from : ℕ → State → List Mask → Replay State
  replay_from k s [] = Kept s
  replay_from k s (m ∷ ms) = go_on k (step s m) (λ t. replay_from (suc k) t ms)

  -- a list played from the start state, first tick 1
  abbrev pub replay : List Mask → Replay State
  replay l = replay_from 0 start l

  -- "a list reaches a state when its answer is Kept with that state"
  abbrev pub Reaches : List Mask → State → Type 0
  Reaches l s = replay l ≡ Kept s

  -- "a list misses when its answer is Missed"
  pub record Misses (l : List Mask) : Type 0 where
    pub tick : ℕ
    pub state : State
    pub answer : replay l ≡ MissedAt tick state

  -- some list reaches s
  pub record Reached (s : State) : Type 0 where
    pub masks : List Mask
    pub reaches : Reaches masks s

  -- some list of at most d ticks reaches s
  pub record Within (d : ℕ) (s : State) : Type 0 where
    pub masks : List Mask
    pub short : length masks ≤ d
    pub reaches : Reaches masks s

-- the first n of a numbered series of states are different
abbrev pub Distinct : {S : Type 0} → (ℕ → S) → ℕ → Type 0
Distinct at n = (i j : ℕ) → i < n → j < n → at i ≡ at j → i ≡ j

-- s is among the first n
pub record Holds {S : Type 0} (at : ℕ → S) (n : ℕ) (s : S) : Type 0 where
  pub place : ℕ
  pub below : place < n
  pub same : at place ≡ s

-- n is the number of different states that have the property P: they can be numbered from 0 to n - 1, each once
pub record Numbered {S : Type 0} (P : S → Type 0) (n : ℕ) : Type 0 where
  pub at : ℕ → S
  pub distinct : Distinct at n
  pub each : (i : ℕ) → i < n → P (at i)
  pub all : (s : S) → P s → Holds at n s

-- the search's answers: Unsafe with L and the count, Safe with the count, No room with the count
pub data Answer : Type 0 where
  Unsafe : ℕ → ℕ → Answer
  Safe : ℕ → Answer
  NoRoom : ℕ → Answer

abbrev pub IsUnsafe : Answer → Type 0
IsUnsafe (Unsafe L n) = Unit {0}
IsUnsafe (Safe n) = ⊥
IsUnsafe (NoRoom n) = ⊥

abbrev pub IsSafe : Answer → Type 0
IsSafe (Unsafe L n) = ⊥
IsSafe (Safe n) = Unit {0}
IsSafe (NoRoom n) = ⊥

abbrev pub IsNoRoom : Answer → Type 0
IsNoRoom (Unsafe L n) = ⊥
IsNoRoom (Safe n) = ⊥
IsNoRoom (NoRoom n) = Unit {0}

module _ (sys : System) where
  open sys use {State, Mask}

  -- N(d) is n: "the number of different states that lists of at most d ticks reach with no miss"
  abbrev pub Counts : ℕ → ℕ → Type 0
  Counts d n = Numbered (Within sys d) n

  -- N(d) is at most K
  pub record CountAtMost (d K : ℕ) : Type 0 where
    pub count : ℕ
    pub counts : Counts d count
    pub most : count ≤ K

  -- L: some list misses, and "L is the least number of ticks that such a list has"
  pub record Least (L : ℕ) : Type 0 where
    pub masks : List Mask
    pub long : length masks ≡ L
    pub misses : Misses sys masks
    pub least : (l : List Mask) → Misses sys l → L ≤ length l

  -- "Unsafe exactly when some list misses and N(L-1) is at most K"
  pub record UnsafeIf (K : ℕ) : Type 0 where
    pub L : ℕ
    pub least : Least L
    pub room : CountAtMost (L - 1) K

  -- "Safe exactly when no list misses and N(d) is at most K for every d"
  pub record SafeIf (K : ℕ) : Type 0 where
    pub none : (l : List Mask) → Misses sys l → ⊥
    pub room : (d : ℕ) → CountAtMost d K

  -- "With Unsafe it reports L and the count N(L-1), and gives L masks whose replay is Missed at tick L"
  pub record UnsafeReport (L n : ℕ) (trace : List Mask) : Type 0 where
    pub least : Least L
    pub count : Counts (L - 1) n
    pub long : length trace ≡ L
    pub state : State
    pub missed : replay sys trace ≡ MissedAt L state

  -- "With Safe the count is the greatest N(d), which is the number of all different states that lists reach"
  pub record SafeReport (n : ℕ) : Type 0 where
    pub all : Numbered (Reached sys) n
    pub depth : ℕ
    pub count : Counts depth n
    pub greatest : (d k : ℕ) → Counts d k → k ≤ n

  -- what is reported with each answer; "With No room the count is K"
  abbrev pub Report : ℕ → Answer → List Mask → Type 0
  Report K (Unsafe L n) trace = UnsafeReport L n trace
  Report K (Safe n) trace = SafeReport n
  Report K (NoRoom n) trace = n ≡ K

  -- demand 3 as one claim: with K slots the answer is a, and under Unsafe the masks given are trace
  pub record Verdict (K : ℕ) (a : Answer) (trace : List Mask) : Type 0 where
    pub unsafe : IsUnsafe a ↔ UnsafeIf K
    pub safe : IsSafe a ↔ SafeIf K
    pub no_room : IsNoRoom a ↔ (¬ UnsafeIf K × ¬ SafeIf K)
    pub report : Report K a trace
