-- Only the checker's bookkeeping, no part of its claim: what its parts ask of each other and promise.
use Rattle.std.specs.Prelude.{◌≡◌, Bool, true, false, not, ◌&&◌, ◌||◌, List, ℕ, ◌+◌, ◌-◌, ◌*◌, ◌/◌, ◌%◌, ◌<◌, ◌≤◌, min, eqb, ltb, length, get_or}
use Rattle.std.specs.Int.Bits.{bit_and}
use Rattle.std.specs.Int.{w8}
use Rattle.std.proofs.Common.{Fits}
use Rattle.lists.specs.Lists.{pick, count}
use Rattle.tasks.specs.Table.{table_fault}
use Rattle.tasks.specs.State.{not_preempted, started, improper}
use Rattle.tasks.specs.Tick.{illegal, after}
use Rattle.tasks.specs.declared.state.State.{State}
use Rattle.tasks.specs.declared.table.Table.{Table}
use Rattle.levels.specs.Verdict.{Holds}
use Rattle.levels.specs.Levels.{Calm}
use Rattle.states.specs.Keys.{key_of, key_in, mixed}
use Rattle.states.specs.System.{system}
use Rattle.states.specs.declared.keys.Key.{Key}
use Rattle.states.specs.Bytes.{state_in}
use Rattle.closed.specs.Closed.{states_in, Contains, Closed}
use Rattle.closed.specs.declared.cells.Probed.{Probed}
use Rattle.closed.specs.declared.split.Split.{Split}
use Rattle.closed.specs.declared.split.Pass.{Pass}

-- ---- lookups

-- true where one of the first n states has the key, false where none does
abbrev pub HeldIs : List ℕ → ℕ → Key → Bool → Type 0
HeldIs file n key true = Holds (key_in file) n key
HeldIs file n key false = Holds (key_in file) n key → ⊥

-- true where one of the first n states has the key; false says nothing
abbrev pub NamedIs : List ℕ → ℕ → Key → Bool → Type 0
NamedIs file n key true = Holds (key_in file) n key
NamedIs file n key false = Unit {0}

-- what a walk along so many cells finds: a state with the key, an empty cell, or neither
abbrev pub ProbeIs : List ℕ → ℕ → Key → ℕ → Probed → Type 0
ProbeIs file n key cells Probed.Found = Holds (key_in file) n key
ProbeIs file n key cells (Probed.Empty at) = at < cells
ProbeIs file n key cells Probed.Crowded = Unit {0}

-- ---- the pairs of a state and a mask, shared out among passes

-- the class of a key, of so many
unfoldable pub class_of : ℕ → Key → ℕ
class_of classes key = (mixed key / 4294967296 + mixed key % 4294967296) / 262144 % classes

-- where a tick takes a task that is `gap` ticks from its next release: it is then so many from it, at most top
unfoldable pub landing : ℕ → ℕ → Bool → ℕ
landing top gap released = pick (eqb gap 0) (pick released top 0) (min (gap - 1) top)

-- .. of the task by which the pairs are split: state i and mask m
unfoldable pub lands : List ℕ → Split → ℕ → ℕ → ℕ
lands file split i m = landing split.top (get_or file (16 * i + 2 * split.task + 1) 0) (not (eqb (bit_and m split.bit) 0))

-- the pair of state i and mask m is looked up in this pass
pub record Due (t : Table) (file : List ℕ) (split : Split) (pass : Pass) (i m : ℕ) : Type 0 where
  pub low : pass.low ≤ lands file split i m
  pub high : lands file split i m < pass.high
  pub class : class_of pass.classes (key_of (after t (state_in file i) m)) ≡ pass.class

-- the pairs of state i that are due
pub record RowOf (t : Table) (file : List ℕ) (split : Split) (pass : Pass) (row i m : ℕ) : Type 0 where
  pub is : i ≡ row
  pub due : Due t file split pass i m

-- the pairs that land from low to high - 1
pub record Between (file : List ℕ) (split : Split) (low high i m : ℕ) : Type 0 where
  pub from : low ≤ lands file split i m
  pub below : lands file split i m < high

-- every pair
abbrev pub Every : ℕ → ℕ → Type 0
Every i m = Unit {0}

-- ---- what is known so far

-- s is proper, and no mask misses from it
pub record SoundState (t : Table) (s : State) : Type 0 where
  pub proper : improper t s ≡ false
  pub calm : Calm (system t) s

abbrev pub StateIs : Table → State → Bool → Type 0
StateIs t s true = SoundState t s
StateIs t s false = SoundState t s → ⊥

-- every state of the file
pub record Sound (t : Table) (file : List ℕ) : Type 0 where
  pub state : (i : ℕ) → i < states_in file → SoundState t (state_in file i)

abbrev pub SoundIs : Table → List ℕ → Bool → Type 0
SoundIs t file true = Sound t file
SoundIs t file false = Closed t file → ⊥

-- the pairs with the property D lead to states of the file
pub record Inside (t : Table) (file : List ℕ) (D : ℕ → ℕ → Type 0) : Type 0 where
  pub inside : (i m : ℕ) → i < states_in file → m < 256 → illegal t (state_in file i) m ≡ false → D i m → Contains file (after t (state_in file i) m)

abbrev pub InsideIs : Table → List ℕ → (ℕ → ℕ → Type 0) → Bool → Type 0
InsideIs t file D true = Inside t file D
InsideIs t file D false = Closed t file → ⊥

abbrev pub ClosedIs : Table → List ℕ → Bool → Type 0
ClosedIs t file true = Closed t file
ClosedIs t file false = Closed t file → ⊥

-- a valid table, and the number of the states of the file
pub record Given (t : Table) (file : List ℕ) (n : ℕ) : Type 0 where
  pub valid : table_fault t ≡ 0
  pub is : n ≡ states_in file

-- .. with sound states and some cells
pub record Ready (t : Table) (file cells : List ℕ) (n : ℕ) : Type 0 where
  pub given : Given t file n
  pub sound : Sound t file
  pub some : 256 < length cells

-- ---- keys that wait for their lookup

-- key k of those that wait
unfoldable pub key_at : List Key → ℕ → Key
key_at pending k = get_or pending k (record { a = 0; b = 0; c = 0; d = 0 })

-- each of the first count keys is that of one of the first n states; or one is not
pub record AllHeld (file : List ℕ) (n : ℕ) (pending : List Key) (count : ℕ) : Type 0 where
  pub each : (k : ℕ) → k < count → Holds (key_in file) n (key_at pending k)

abbrev pub AllHeldIs : List ℕ → ℕ → List Key → ℕ → Bool → Type 0
AllHeldIs file n pending count true = AllHeld file n pending count
AllHeldIs file n pending count false = AllHeld file n pending count → ⊥

-- as long, the first count keys the same, and no fewer
pub record Grown (old : List Key) (count : ℕ) (new : List Key) (next : ℕ) : Type 0 where
  pub same : length new ≡ length old
  pub up : count ≤ next
  pub first : (k : ℕ) → k < count → key_at new k ≡ key_at old k

-- the key of state s waits where it is due and of the pass's class, and no other is added
pub record AfterWaits (pass : Pass) (due : Bool) (s : State) (old : List Key) (count : ℕ) (new : List Key) (next : ℕ) : Type 0 where
  pub grown : Grown old count new next
  pub is : (k : ℕ) → count ≤ k → k < next → key_at new k ≡ key_of s
  pub held :
      due ≡ true → class_of pass.classes (key_of s) ≡ pass.class → (file : List ℕ) (n : ℕ) → ((k : ℕ) → Fits w8 (get_or file k 0))
      → AllHeld file n new next → Holds (state_in file) n s

-- the key of the state after a legal mask of a state of the file
pub record From (t : Table) (file : List ℕ) (key : Key) : Type 0 where
  pub state : ℕ
  pub mask : ℕ
  pub below : state < states_in file
  pub small : mask < 256
  pub legal : illegal t (state_in file state) mask ≡ false
  pub is : key ≡ key_of (after t (state_in file state) mask)

-- the keys of the states after the pairs with the property D wait, and none is added but those of states after legal masks
pub record RowWaits (t : Table) (file : List ℕ) (n : ℕ) (D : ℕ → ℕ → Type 0) (old : List Key) (count : ℕ) (new : List Key) (next : ℕ) : Type 0 where
  pub grown : Grown old count new next
  pub from : (k : ℕ) → count ≤ k → k < next → From t file (key_at new k)
  pub inside : AllHeld file n new next → Inside t file D

-- ---- proper states, by two tests

-- c of task i is above C
unfoldable pub work_above : Table → State → ℕ → Bool
work_above t s i = ltb (get_or t.work i 0) (get_or s.c i 0)

-- p of task i is above P
unfoldable pub gap_above : Table → State → ℕ → Bool
gap_above t s i = ltb (get_or t.gap i 0) (get_or s.p i 0)

-- some task is above its numbers, or more than m jobs keep a processor
unfoldable pub exceeds : Table → State → Bool
exceeds t s =
    ltb 0 (count 8 (work_above t s)) || ltb 0 (count 8 (gap_above t s)) || (not_preempted t && ltb t.m (count 8 (started t s)))
