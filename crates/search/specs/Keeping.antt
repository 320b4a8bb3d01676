-- Only the search's bookkeeping, no part of its claim: what its parts ask of each other and promise. K slots stand in w in the layout
-- while the search runs (Running.antt of `slots`), and ends are the ends of its blocks.
use Rattle.std.specs.Prelude.{◌≡◌, ◌⊎◌, false, List, [], ◌∷◌, ◌++◌, ℕ, suc, ◌+◌, ◌*◌, ◌/◌, ◌≤◌, ◌<◌, length, get_or, drop, Option, Some, None, Ok}
use Rattle.tasks.specs.Table.{table_fault}
use Rattle.tasks.specs.State.{improper}
use Rattle.tasks.specs.Tick.{after}
use Rattle.tasks.specs.declared.state.State.{State}
use Rattle.tasks.specs.declared.table.Table.{Table}
use Rattle.levels.specs.Verdict.{Answer, Verdict, Holds}
use Rattle.levels.specs.Verdict.Answer.{Unsafe, Safe, NoRoom}
use Rattle.levels.specs.Verdict as levels
use Rattle.levels.specs.Slots.{SlotRule, Stored, Complete, count_of}
use Rattle.levels.specs.Levels.{trail, Before, Hunting, Filling}
use Rattle.states.specs.Bytes.{state_in}
use Rattle.states.specs.System.{step, system}
use Rattle.slots.specs.Layout.{columns, parent_at, mask_at, Stays}
use Rattle.slots.specs.Running.{parent_in, Marked, Settled}
use Rattle.search.specs.Claim.{slots_in, figures, Found}
use Rattle.search.specs.Indexed.{Indexed, Pushed}
use Rattle.search.specs.declared.run.End.{End}
use Rattle.search.specs.declared.run.Verdict as run

-- ---- levels' invariants over the slots of a work space

abbrev pub FillingIn : Table → ℕ → List ℕ → List ℕ → ℕ → ℕ → ℕ → ℕ → (ℕ → ℕ → Type 0) → Type 0
FillingIn t K ends w lo hi n d T = Filling (system t) (state_in w) (parent_in K ends w) (mask_at (columns K) w) 0 lo hi n d T

-- ---- the hunt

-- a valid table, and hi slots with proper states
pub record Level (t : Table) (w : List ℕ) (hi : ℕ) : Type 0 where
  pub valid : table_fault t ≡ 0
  pub fits : 16 * hi ≤ length w
  pub proper : (i : ℕ) → i < hi → improper t (state_in w i) ≡ false

-- mask m misses from slot i of the level
pub record MissFrom (t : Table) (w : List ℕ) (lo hi i m : ℕ) : Type 0 where
  pub from : lo ≤ i
  pub below : i < hi
  pub missed : step t (state_in w i) m ≡ levels.Tick.Missed (after t (state_in w i) m)

-- a slot and a mask that misses from it, or none does
abbrev pub HuntIs : Table → List ℕ → ℕ → ℕ → Option (ℕ × ℕ) → Type 0
HuntIs t w lo hi (Some found) = MissFrom t w lo hi found.0 found.1
HuntIs t w lo hi None = Hunting (system t) (state_in w) lo hi

-- ---- storing

-- state u, to which slot i leads under mask m: the slots hold it; or slot n does now; or they are full, without it
pub record Known (w w' heads heads' : List ℕ) (n : ℕ) (u : State) : Type 0 where
  pub held : Holds (state_in w) n u
  pub same : w' ≡ w
  pub same_heads : heads' ≡ heads

pub record Added (K : ℕ) (w w' heads heads' : List ℕ) (n : ℕ) (u : State) (i m : ℕ) : Type 0 where
  pub below : n < K
  pub absent : Holds (state_in w) n u → ⊥
  pub pushed : Pushed K w w' heads heads' n u i m

pub record Crowded (K : ℕ) (w w' : List ℕ) (n : ℕ) (u : State) : Type 0 where
  pub full : n ≡ K
  pub absent : Holds (state_in w) n u → ⊥
  pub same : w' ≡ w

-- how many slots are filled then, or there was no room
abbrev pub Attempted : ℕ → List ℕ → List ℕ → List ℕ → List ℕ → ℕ → State → ℕ → ℕ → Option ℕ → Type 0
Attempted K w w' heads heads' n u i m (Some n') = ((n' ≡ n) × Known w w' heads heads' n u) ⊎ ((n' ≡ n + 1) × Added K w w' heads heads' n u i m)
Attempted K w w' heads heads' n u i m None = Crowded K w w' n u

-- from n to n' slots, of which the states of the first n stay, and so do the bytes that are in none of the n'
pub record Kept (K : ℕ) (w w' : List ℕ) (n n' : ℕ) : Type 0 where
  pub order : n ≤ n'
  pub len : length w' ≡ length w
  pub states : (j : ℕ) → j < n → state_in w' j ≡ state_in w j
  pub rest : Stays (columns K) n' w w'

-- every slot is filled with a state reached, and there is one more: no room
pub record Overfull (t : Table) (K : ℕ) (ends w : List ℕ) : Type 0 where
  pub verdict : (trace : List ℕ) → Verdict (system t) K (NoRoom K) trace
  pub rule : SlotRule (system t) (state_in w) (parent_in K ends w) (mask_at (columns K) w) 0 K
  pub stored : Stored (system t) (state_in w) K

-- slot i of a level under its masks, from the pairs T tried to U, whichever the level and the ends of the blocks before
abbrev pub Carries : Table → ℕ → List ℕ → List ℕ → ℕ → ℕ → ℕ → (ℕ → ℕ → Type 0) → (ℕ → ℕ → Type 0) → Type 0
Carries t K w w' n n' i T U =
    (ends : List ℕ) → Marked ends i n → (lo hi d : ℕ) → lo ≤ i → i < hi → FillingIn t K ends w lo hi n d T → FillingIn t K ends w' lo hi n' d U

-- what a row asks: n slots, slot i among them with a proper state
pub record RowReady (t : Table) (K : ℕ) (w heads : List ℕ) (n i : ℕ) : Type 0 where
  pub valid : table_fault t ≡ 0
  pub indexed : Indexed K w heads n
  pub below : i < n
  pub proper : improper t (state_in w i) ≡ false

-- the row is done, or there was no room
pub record RowDone (t : Table) (K : ℕ) (w w' heads' : List ℕ) (n n' i : ℕ) : Type 0 where
  pub kept : Kept K w w' n n'
  pub indexed : Indexed K w' heads' n'
  pub carries : Carries t K w w' n n' i (Before i) (Before (suc i))

pub record RowFull (t : Table) (K : ℕ) (w w' : List ℕ) (n i : ℕ) : Type 0 where
  pub len : length w' ≡ length w
  pub rest : Stays (columns K) K w w'
  pub overfull : (ends : List ℕ) → Marked ends i n → (lo hi d : ℕ) → lo ≤ i → i < hi → FillingIn t K ends w lo hi n d (Before i) → Overfull t K ends w'

abbrev pub RowIs : Table → ℕ → List ℕ → List ℕ → List ℕ → ℕ → ℕ → Option ℕ → Type 0
RowIs t K w w' heads' n i (Some n') = RowDone t K w w' heads' n n' i
RowIs t K w w' heads' n i None = RowFull t K w w' n i

-- what a block asks: n slots, those from lo to hi - 1 among them, with proper states and all of one block
pub record BlockReady (t : Table) (K : ℕ) (w heads : List ℕ) (n lo hi : ℕ) : Type 0 where
  pub valid : table_fault t ≡ 0
  pub indexed : Indexed K w heads n
  pub order : lo ≤ hi
  pub below : hi ≤ n
  pub block : hi ≤ 4096 * (lo / 4096 + 1)
  pub proper : (i : ℕ) → i < hi → improper t (state_in w i) ≡ false

-- slots lo to i - 1 of a level that has those up to hi - 1, whichever the level and the ends of the blocks before
abbrev pub Advances : Table → ℕ → List ℕ → List ℕ → ℕ → ℕ → ℕ → ℕ → ℕ → Type 0
Advances t K w w' n n' lo hi i =
    (ends : List ℕ) → Marked ends lo n → (first last d : ℕ) → first ≤ lo → hi ≤ last
    → FillingIn t K ends w first last n d (Before lo) → FillingIn t K ends w' first last n' d (Before i)

-- the block is done, or there was no room
pub record BlockDone (t : Table) (K : ℕ) (w w' heads' : List ℕ) (n n' lo hi : ℕ) : Type 0 where
  pub kept : Kept K w w' n n'
  pub indexed : Indexed K w' heads' n'
  pub advances : Advances t K w w' n n' lo hi hi

pub record BlockFull (t : Table) (K : ℕ) (w w' : List ℕ) (n lo hi : ℕ) : Type 0 where
  pub len : length w' ≡ length w
  pub rest : Stays (columns K) K w w'
  pub overfull :
      (ends : List ℕ) → Marked ends lo n → (first last d : ℕ) → first ≤ lo → hi ≤ last → FillingIn t K ends w first last n d (Before lo)
      → Overfull t K ends w'

abbrev pub BlockIs : Table → ℕ → List ℕ → List ℕ → List ℕ → ℕ → ℕ → ℕ → Option ℕ → Type 0
BlockIs t K w w' heads' n lo hi (Some n') = BlockDone t K w w' heads' n n' lo hi
BlockIs t K w w' heads' n lo hi None = BlockFull t K w w' n lo hi

-- the level is done, or there was no room; ends' are the ends then
pub record LevelDone (t : Table) (K : ℕ) (ends ends' w w' heads' : List ℕ) (lo hi n : ℕ) : Type 0 where
  pub kept : Kept K w w' hi n
  pub indexed : Indexed K w' heads' n
  pub marked : Marked ends' hi n
  pub filled : (d : ℕ) → FillingIn t K ends w lo hi hi d (Before lo) → FillingIn t K ends' w' lo hi n d (Before hi)

pub record LevelFull (t : Table) (K : ℕ) (ends ends' w w' : List ℕ) (lo hi : ℕ) : Type 0 where
  pub len : length w' ≡ length w
  pub rest : Stays (columns K) K w w'
  pub last : get_or ends' 244 0 ≡ 1000000
  pub overfull : (d : ℕ) → FillingIn t K ends w lo hi hi d (Before lo) → Overfull t K ends' w'

abbrev pub LevelIs : Table → ℕ → List ℕ → List ℕ → List ℕ → List ℕ → List ℕ → ℕ → ℕ → Option ℕ → Type 0
LevelIs t K ends ends' w w' heads' lo hi (Some n) = LevelDone t K ends ends' w w' heads' lo hi n
LevelIs t K ends ends' w w' heads' lo hi None = LevelFull t K ends ends' w w' lo hi

-- ---- the levels

-- a valid table, and no slot of K filled yet
pub record Fresh (t : Table) (K : ℕ) (ends w heads : List ℕ) : Type 0 where
  pub valid : table_fault t ≡ 0
  pub some : 1 ≤ K
  pub few : K ≤ 1000000
  pub fits : 21 * K ≤ length w
  pub buckets : 0 < length heads
  pub empty : (b : ℕ) → get_or heads b 0 ≡ 0
  pub marked : Marked ends 0 0

-- a verdict found with these masks: what Claim.antt's `Searched` says of it, in the layout while the search runs
pub record Ran (t : Table) (K : ℕ) (ends w w' : List ℕ) (a : Answer) (masks : List ℕ) : Type 0 where
  pub some : 1 ≤ count_of a
  pub most : count_of a ≤ K
  pub last : get_or ends 244 0 ≡ 1000000
  pub verdict : Verdict (system t) K a masks
  pub rule : SlotRule (system t) (state_in w') (parent_in K ends w') (mask_at (columns K) w') 0 (count_of a)
  pub stored : Stored (system t) (state_in w') (count_of a)
  pub complete : Complete (system t) (state_in w') a
  pub rest : Stays (columns K) (count_of a) w w'

-- mask m misses from slot i, to which d masks lead, and n slots are filled
pub record RanMissed (t : Table) (K : ℕ) (ends w w' : List ℕ) (i m d n : ℕ) : Type 0 where
  pub below : i < n
  pub deep : d < n
  pub low : (j : ℕ) → j < n → parent_in K ends w' j < n
  pub ran : Ran t K ends w w' (Unsafe (suc d) n) (trail (parent_in K ends w') (mask_at (columns K) w') d i ++ m ∷ [])

abbrev pub RanIs : Table → ℕ → List ℕ → List ℕ → List ℕ → End → Type 0
RanIs t K ends w w' (End.Missed i m d n) = RanMissed t K ends w w' i m d n
RanIs t K ends w w' (End.Closed n) = Ran t K ends w w' (Safe n) []
RanIs t K ends w w' End.Full = Ran t K ends w w' (NoRoom K) []

pub record RanBy (t : Table) (K : ℕ) (ends w w' : List ℕ) (end : End) : Type 0 where
  pub is : RanIs t K ends w w' end

-- how many slots are written then
abbrev pub written_by : ℕ → End → ℕ
written_by K (End.Missed i m d n) = n
written_by K (End.Closed n) = n
written_by K End.Full = K

-- ---- the trace and the answer, once the columns are as the paper has them

-- slot i's way through d parents stays among n of the K slots that the work space has
pub record TraceReady (K : ℕ) (w trace : List ℕ) (i d : ℕ) : Type 0 where
  pub n : ℕ
  pub below : i < n
  pub most : n ≤ K
  pub fits : 21 * K ≤ length w
  pub low : (j : ℕ) → j < n → parent_at (columns K) w j < n
  pub long : d < length trace

-- the trace space with the masks to slot i and then m
unfoldable pub traced : ℕ → List ℕ → List ℕ → ℕ → ℕ → ℕ → List ℕ
traced K w trace i d m = trail (parent_at (columns K) w) (mask_at (columns K) w) d i ++ m ∷ drop (d + 1) trace

abbrev pub ReportReady : ℕ → List ℕ → List ℕ → End → Type 0
ReportReady K w trace (End.Missed i m d n) = TraceReady K w trace i d
ReportReady K w trace (End.Closed n) = Unit {0}
ReportReady K w trace End.Full = Unit {0}

-- the answer, and the trace space after it
abbrev pub ReportIs : ℕ → List ℕ → List ℕ → List ℕ → End → run.Verdict → Type 0
ReportIs K w trace trace' (End.Missed i m d n) r = (r ≡ run.Verdict.Unsafe (suc d) n) × (trace' ≡ traced K w trace i d m)
ReportIs K w trace trace' (End.Closed n) r = (r ≡ run.Verdict.Safe n) × (trace' ≡ trace)
ReportIs K w trace trace' End.Full r = (r ≡ run.Verdict.NoRoom K) × (trace' ≡ trace)

-- ---- the whole search

-- a valid table, and K slots in spaces that will do
pub record Lent (t : Table) (w trace : List ℕ) (K : ℕ) : Type 0 where
  pub valid : table_fault t ≡ 0
  pub is : K ≡ slots_in w
  pub some : 1 ≤ K
  pub long : K ≤ length trace

-- what is asked once the levels have ended: the written slots are among K, and once they are as the paper has them the report may be made
pub record Finishing (K : ℕ) (ends w trace : List ℕ) (end : End) : Type 0 where
  pub len : length ends ≡ 245
  pub most : written_by K end ≤ K
  pub last : written_by K end ≤ get_or ends 244 0
  pub fits : 21 * K ≤ length w
  pub ready : (w' : List ℕ) → Settled K ends w w' (written_by K end) → ReportReady K w' trace end

-- .. and what is left then: what the levels found of a valid table, w₀ being the work space at first, is the claim
pub record Finished (K : ℕ) (ends w w' trace trace' : List ℕ) (end : End) (r : run.Verdict) : Type 0 where
  pub found :
      (t : Table) (w₀ : List ℕ) → table_fault t ≡ 0 → length w ≡ length w₀ → RanBy t K ends w₀ w end → Found (columns K) K t w₀ w' trace trace' (figures (Ok r))
