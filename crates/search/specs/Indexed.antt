-- Only the search's bookkeeping, no part of its claim: the index over the slots of a work space.
use Rattle.std.specs.Prelude.{◌≡◌, Bool, true, false, List, ℕ, ◌+◌, ◌-◌, ◌*◌, ◌/◌, ◌%◌, ◌<◌, ◌≤◌, length, get_or}
use Rattle.std.specs.Int.Bits.{bit_and}
use Rattle.tasks.specs.Tick.{bit}
use Rattle.tasks.specs.declared.state.State.{State}
use Rattle.levels.specs.Index.{Index}
use Rattle.levels.specs.Verdict.{Holds}
use Rattle.states.specs.Bytes.{state_in}
use Rattle.states.specs.Keys.{key_of, mixed}
use Rattle.states.specs.declared.keys.Key.{Key}
use Rattle.slots.specs.Layout.{columns, mask_at, Stays}
use Rattle.slots.specs.Running.{word_at, link_at}

-- the halves of a key's sum added, and cut to the number of buckets, a power of two
unfoldable pub bucket_for : ℕ → Key → ℕ
bucket_for size k = bit_and (mixed k / 4294967296 + mixed k % 4294967296) (size - 1)

unfoldable pub bucket_of : ℕ → State → ℕ
bucket_of size s = bucket_for size (key_of s)

-- one of twelve tags
unfoldable pub tag_for : Key → ℕ
tag_for k = mixed k / 262144 % 12

unfoldable pub tag_of : State → ℕ
tag_of s = tag_for (key_of s)

-- a bucket's head: its newest slot in the low 20 bits, and above them a bit for each tag that a slot of its chain has
unfoldable pub newest : List ℕ → ℕ → ℕ
newest heads b = get_or heads b 0 % 1048576

unfoldable pub tags_in : List ℕ → ℕ → ℕ
tags_in heads b = get_or heads b 0 / 1048576

-- the first n of K slots are indexed by heads and by their links, and each has its tag in its bucket's head
pub record Indexed (K : ℕ) (w heads : List ℕ) (n : ℕ) : Type 0 where
  pub some : 0 < length heads
  pub few : K ≤ 1000000
  pub room : n ≤ K
  pub fits : 21 * K ≤ length w
  pub index : Index (bucket_of (length heads)) (state_in w) (newest heads) (link_at K w) n
  pub tagged : (j : ℕ) → j < n → bit (tags_in heads (bucket_of (length heads) (state_in w j))) (tag_of (state_in w j)) ≡ true

-- true where one of the first n slots holds s, false where none does
abbrev pub HeldIs : List ℕ → ℕ → State → Bool → Type 0
HeldIs w n s true = Holds (state_in w) n s
HeldIs w n s false = Holds (state_in w) n s → ⊥

-- w' and heads' are w and heads with slot n written, and those before it stay
pub record Pushed (K : ℕ) (w w' heads heads' : List ℕ) (n : ℕ) (s : State) (parent mask : ℕ) : Type 0 where
  pub len : length w' ≡ length w
  pub states : (j : ℕ) → j < n → state_in w' j ≡ state_in w j
  pub words : (j : ℕ) → j < n → word_at K w' j ≡ word_at K w j
  pub masks : (j : ℕ) → j < n → mask_at (columns K) w' j ≡ mask_at (columns K) w j
  pub state : state_in w' n ≡ s
  pub place : word_at K w' n / 1048576 ≡ parent % 4096
  pub mask_is : mask_at (columns K) w' n ≡ mask
  pub rest : Stays (columns K) (n + 1) w w'
  pub indexed : Indexed K w' heads' (n + 1)
