-- Only the search's bookkeeping, no part of its claim: what a search level by level keeps true of its slots.
-- at i, parent i and mask i are the state, parent and mask of slot i. Level d is in slots lo to hi - 1, and n slots are filled.
use Rattle.std.specs.Prelude.{◌≡◌, List, [], ◌∷◌, ◌++◌, ℕ, zero, suc, ◌≤◌, ◌<◌}
use Rattle.levels.specs.Verdict.{System, Within, Reaches, Distinct, Holds, CountAtMost}
use Rattle.levels.specs.Verdict.Tick.{Next, Missed}
use Rattle.levels.specs.Slots.{SlotRule}

-- the masks on the way to slot i through k parents
abbrev pub trail : {M : Type 0} → (ℕ → ℕ) → (ℕ → M) → ℕ → ℕ → List M
trail parent mask zero i = []
trail parent mask (suc k) i = trail parent mask k (parent i) ++ mask i ∷ []

-- the pairs tried of slot and mask: every mask of the slots before slot i
abbrev pub Before : {M : Type 0} → ℕ → ℕ → M → Type 0
Before i = λ j m. j < i

module _ (sys : System) where
  open sys use {State, Mask, start, step}

  -- no mask misses from s
  abbrev pub Calm : State → Type 0
  Calm s = (m : Mask) (t : State) → step s m ≡ Missed t → ⊥

  -- no list of at most d + 1 ticks misses: the hunt through the states reached within d ticks found no miss
  abbrev pub Hunted : ℕ → Type 0
  Hunted d = (s : State) → Within sys d s → Calm s

  -- the hunt through the level's slots stands at slot i: no mask misses from those before it
  pub record Hunting (at : ℕ → State) (lo i : ℕ) : Type 0 where
    pub calm : (j : ℕ) → lo ≤ j → j < i → Calm (at j)

  -- the successor of s under m, if it has one, is among the first n slots
  abbrev pub Covered : (ℕ → State) → ℕ → State → Mask → Type 0
  Covered at n s m = (t : State) → step s m ≡ Next t → Holds at n t

  -- the level is hunted and its successors are being stored: those of the pairs tried are among the first n slots
  pub record Storing (at : ℕ → State) (hi n d : ℕ) (Tried : ℕ → Mask → Type 0) : Type 0 where
    pub order : hi ≤ n
    pub distinct : Distinct at n
    pub old : (i : ℕ) → i < hi → Within sys d (at i)
    pub new : (i : ℕ) → i < n → Within sys (suc d) (at i)
    pub full : (s : State) → Within sys d s → Holds at hi s
    pub stored : (i : ℕ) (m : Mask) → i < hi → Tried i m → Covered at n (at i) m
    pub hunted : Hunted d
    pub past : (e : ℕ) → e ≤ d → CountAtMost sys e hi

  -- the slots of the level are reached by their trails, of d masks
  abbrev pub Trailed : (ℕ → State) → (ℕ → ℕ) → (ℕ → Mask) → ℕ → ℕ → ℕ → Type 0
  Trailed at parent mask lo hi d = (i : ℕ) → lo ≤ i → i < hi → Reaches sys (trail parent mask d i) (at i)

  -- .. and the slots stored since have parents of the level
  pub record Grown (at : ℕ → State) (parent : ℕ → ℕ) (mask : ℕ → Mask) (lo hi n d : ℕ) : Type 0 where
    pub order : hi ≤ n
    pub low : (i : ℕ) → i < hi → parent i < hi
    pub level : Trailed at parent mask lo hi d
    pub from : (i : ℕ) → hi ≤ i → i < n → lo ≤ parent i
    pub below : (i : ℕ) → hi ≤ i → i < n → parent i < hi
    pub gives : (i : ℕ) → hi ≤ i → i < n → step (at (parent i)) (mask i) ≡ Next (at i)

  -- the search fills slots with the successors of level d
  pub record Filling (at : ℕ → State) (parent : ℕ → ℕ) (mask : ℕ → Mask) (zeroth : Mask) (lo hi n d : ℕ) (Tried : ℕ → Mask → Type 0) : Type 0 where
    pub deep : d < hi
    pub storing : Storing at hi n d Tried
    pub grown : Grown at parent mask lo hi n d
    pub rule : SlotRule sys at parent mask zeroth n
