-- Only the search's bookkeeping, no part of its claim: the layout of the work space while a search runs. States and masks stand where the
-- paper's columns have them. In the place of a parent stands a word: the low twenty bits are the slot's link in the index, those above the
-- parent's place in a block of 4096 slots. Which block that is, the ends of the blocks tell, since slots are filled in the order of their
-- parents. One last pass (Settled) leaves the paper's columns.
use Rattle.std.specs.Prelude.{◌≡◌, List, [], ◌∷◌, ℕ, suc, ◌+◌, ◌*◌, ◌/◌, ◌%◌, ◌≤◌, ◌<◌, eqb, ltb, length, get_or, set}
use Rattle.lists.specs.Lists.{pick}
use Rattle.states.specs.Bytes.{state_in}
use Rattle.slots.specs.Layout.{columns, state_at, parent_at, mask_at, Stays}

-- the word of slot i, and the link in it
abbrev pub word_at : ℕ → List ℕ → ℕ → ℕ
word_at K w i = parent_at (columns K) w i

unfoldable pub link_at : ℕ → List ℕ → ℕ → ℕ
link_at K w i = word_at K w i % 1048576

-- the word of a slot
unfoldable pub word_of : ℕ → ℕ → ℕ
word_of parent link = link + 1048576 * (parent % 4096)

-- end b is how many slots were filled when the last slot of block b had been tried, and 1,000,000 before that. So the parent of slot i is
-- of the first block whose end is above i
unfoldable pub block_of : List ℕ → ℕ → ℕ
block_of [] i = 0
block_of (e ∷ es) i = pick (ltb i e) 0 (suc (block_of es i))

-- the ends of the blocks before block b are not above i
pub record Ended (ends : List ℕ) (b i : ℕ) : Type 0 where
  pub past : (c : ℕ) → c < b → get_or ends c 0 ≤ i

-- the parent of slot i
unfoldable pub parent_in : ℕ → List ℕ → List ℕ → ℕ → ℕ
parent_in K ends w i = 4096 * block_of ends i + word_at K w i / 1048576

-- the ends once slot i has been tried, with n slots filled
unfoldable pub ends_after : List ℕ → ℕ → ℕ → List ℕ
ends_after ends i n = pick (eqb (i % 4096) 4095) (set ends (i / 4096) n) ends

-- the slots before slot i have been tried, and n are filled
pub record Marked (ends : List ℕ) (i n : ℕ) : Type 0 where
  pub len : length ends ≡ 245
  pub ended : Ended ends (i / 4096) n
  pub unset : (b : ℕ) → i / 4096 ≤ b → b < 245 → get_or ends b 0 ≡ 1000000

-- ---- the last pass

-- the first i slots have their parents, and those after them their words
pub record Settling (K : ℕ) (ends w w' : List ℕ) (i : ℕ) : Type 0 where
  pub len : length w' ≡ length w
  pub done : (j : ℕ) → j < i → parent_at (columns K) w' j ≡ parent_in K ends w j
  pub left : (j : ℕ) → i ≤ j → j < K → word_at K w' j ≡ word_at K w j
  pub states : (j : ℕ) → j < K → state_at (columns K) w' j ≡ state_at (columns K) w j
  pub masks : (j : ℕ) → j < K → mask_at (columns K) w' j ≡ mask_at (columns K) w j
  pub rest : Stays (columns K) i w w'

-- the slots from `from` to `to` - 1, where all are of block b: r slots have their parents now, whatever the pass began with
pub record BlockSettled (K b from to : ℕ) (w w' : List ℕ) (r : ℕ) : Type 0 where
  pub low : from ≤ r
  pub upto : to ≤ r
  pub most : (m : ℕ) → from ≤ m → to ≤ m → r ≤ m
  pub carries :
      (ends w₀ : List ℕ) → ((j : ℕ) → get_or w₀ j 0 < 256) → ((j : ℕ) → from ≤ j → j < to → block_of ends j ≡ b)
      → Settling K ends w₀ w from → Settling K ends w₀ w' r

-- w' is w with the first n slots as the paper has them
pub record Settled (K : ℕ) (ends w w' : List ℕ) (n : ℕ) : Type 0 where
  pub len : length w' ≡ length w
  pub states : (j : ℕ) → j < n → state_at (columns K) w' j ≡ state_in w j
  pub parents : (j : ℕ) → j < n → parent_at (columns K) w' j ≡ parent_in K ends w j
  pub masks : (j : ℕ) → j < n → mask_at (columns K) w' j ≡ mask_at (columns K) w j
  pub rest : Stays (columns K) n w w'
