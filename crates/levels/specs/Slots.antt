-- What the written slots must hold (document 01, "The search"), whatever their bytes: at i, parent i and mask i are those of slot i.
-- Beside Verdict.antt this is the other file to believe.
use Rattle.std.specs.Prelude.{◌≡◌, ℕ, ◌-◌, ◌<◌}
use Rattle.levels.specs.Verdict.{System, Answer, Within, Reached, Distinct, Holds}
use Rattle.levels.specs.Verdict.Tick.{Next}
use Rattle.levels.specs.Verdict.Answer.{Unsafe, Safe, NoRoom}

-- the count that an answer reports
abbrev pub count_of : Answer → ℕ
count_of (Unsafe L n) = n
count_of (Safe n) = n
count_of (NoRoom n) = n

-- how many masks an answer gives
abbrev pub masks_of : Answer → ℕ
masks_of (Unsafe L n) = L
masks_of (Safe n) = 0
masks_of (NoRoom n) = 0

module _ (sys : System) where
  open sys use {State, Mask, start, step}

  -- the slot rule: "Slot 0 is the start state, parent 0, mask 0; any other slot's parent is an earlier slot whose tick
  -- under the mask gives its state". Which mask is mask 0 is the caller's to say: zeroth.
  pub record SlotRule (at : ℕ → State) (parent : ℕ → ℕ) (mask : ℕ → Mask) (zeroth : Mask) (n : ℕ) : Type 0 where
    pub root : at 0 ≡ start
    pub root_parent : parent 0 ≡ 0
    pub root_mask : mask 0 ≡ zeroth
    pub earlier : (i : ℕ) → 0 < i → i < n → parent i < i
    pub gives : (i : ℕ) → 0 < i → i < n → step (at (parent i)) (mask i) ≡ Next (at i)

  -- "each a state reached without a miss, no two the same"
  pub record Stored (at : ℕ → State) (n : ℕ) : Type 0 where
    pub distinct : Distinct at n
    pub reached : (i : ℕ) → i < n → Reached sys (at i)

  -- "under Safe they are all such states, under Unsafe all those reached in at most L-1 ticks"
  abbrev pub Complete : (ℕ → State) → Answer → Type 0
  Complete at (Unsafe L n) = (s : State) → Within sys (L - 1) s → Holds at n s
  Complete at (Safe n) = (s : State) → Reached sys s → Holds at n s
  Complete at (NoRoom n) = Unit {0}
