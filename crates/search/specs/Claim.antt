-- What a search answers and leaves: demand 3, the slots, the trace and the refusals (document 01, "The search" and "Refusals by cause").
-- This is the file to believe, with Verdict.antt and Slots.antt of `levels`, System.antt of `states`, and Layout.antt of `slots`, where
-- the slots stand.
use Rattle.std.specs.Prelude.{◌≡◌, List, ℕ, ◌/◌, ◌≤◌, ◌<◌, min, eqb, ltb, length, take, drop, Result, Ok, Err}
use Rattle.lists.specs.Lists.{pick}
use Rattle.tasks.specs.Table.{table_fault}
use Rattle.tasks.specs.Refusals.{refusal_number}
use Rattle.tasks.specs.Sheet.{sheet_of, table_in, after_reading}
use Rattle.tasks.specs.Replay.{replayed}
use Rattle.tasks.specs.declared.refusal.Refusal.{Refusal}
use Rattle.tasks.specs.declared.table.Table.{Table}
use Rattle.tasks.specs.declared.play.Outcome.TheVariants as Outcome
use Rattle.tasks.specs.declared.play.ReplayAnswer.TheVariants as ReplayAnswer
use Rattle.levels.specs.Verdict.{Answer, Verdict}
use Rattle.levels.specs.Verdict.Answer.{Unsafe, Safe, NoRoom}
use Rattle.levels.specs.Slots.{SlotRule, Stored, Complete, count_of, masks_of}
use Rattle.states.specs.System.{system}
use Rattle.slots.specs.Layout.{Layout, columns, state_at, parent_at, mask_at, Zeros, Stays}
use Rattle.search.specs.declared.run.Verdict as run

-- ---- K and the refusals

-- K, of slots that have this many bytes: "the length divided by .., rounded down", "at most 1,000,000"
unfoldable pub slots_of : ℕ → List ℕ → ℕ
slots_of bytes work = min (length work / bytes) 1000000

-- 02, §6: "K is the length divided by 21, rounded down, same cap"
abbrev pub slots_in : List ℕ → ℕ
slots_in work = slots_of 21 work

-- 9 where K is 0, 10 where the trace space is shorter than K, and 0 where the spaces will do
unfoldable pub spaces_refusal : ℕ → List ℕ → ℕ
spaces_refusal K trace = pick (eqb K 0) 9 (pick (ltb (length trace) K) 10 0)

-- a search of a table with K slots: 4 to 7, then 9 and 10; 0 where it is not refused
unfoldable pub table_refusal : Table → ℕ → List ℕ → ℕ
table_refusal t K trace = pick (ltb 0 (table_fault t)) (table_fault t) (spaces_refusal K trace)

-- a search of a sheet: 1 to 8, then 9 and 10
unfoldable pub sheet_refusal : List ℕ → ℕ → List ℕ → ℕ
sheet_refusal sheet K trace = after_reading (sheet_of sheet) (spaces_refusal K trace)

-- ---- an answer's figures

-- "kind 1 Safe, 2 Unsafe, 3 No room, 0 refused. L is 0 unless Unsafe; under 0, N is the refusal number"
pub record Figures : Type 0 where
  pub kind : ℕ
  pub L : ℕ
  pub N : ℕ

-- those of each case of the answer
abbrev pub figures : Result run.Verdict Refusal → Figures
figures (Ok (run.Verdict.Safe n)) = record { kind = 1; L = 0; N = n }
figures (Ok (run.Verdict.Unsafe l n)) = record { kind = 2; L = l; N = n }
figures (Ok (run.Verdict.NoRoom n)) = record { kind = 3; L = 0; N = n }
figures (Err r) = record { kind = 0; L = 0; N = refusal_number r }

-- of a verdict of demand 3
abbrev pub verdict_figures : Answer → Figures
verdict_figures (Safe n) = record { kind = 1; L = 0; N = n }
verdict_figures (Unsafe l n) = record { kind = 2; L = l; N = n }
verdict_figures (NoRoom n) = record { kind = 3; L = 0; N = n }

-- of a refusal
abbrev pub refusal_figures : ℕ → Figures
refusal_figures r = record { kind = 0; L = 0; N = r }

-- ---- the one claim

-- Unsafe "gives L masks whose replay is Missed at tick L": the replay that the public call promises, of the first L bytes of the trace
-- space
abbrev pub Replays : Table → List ℕ → Answer → Type 0
Replays t trace (Unsafe L n) = (replayed t (take L trace)).answer ≡ ReplayAnswer.Played (Outcome.Missed L)
Replays t trace (Safe n) = Unit {0}
Replays t trace (NoRoom n) = Unit {0}

-- a verdict of a table, from what the two spaces held to what they hold: K slots, whose parts stand where layout l has them
pub record Searched (l : Layout) (K : ℕ) (t : Table) (work work' trace trace' : List ℕ) (a : Answer) : Type 0 where
  -- demand 3 in full; under Unsafe the masks given are the first L bytes of the trace space
  pub verdict : Verdict (system t) K a (take (masks_of a) trace')
  pub replays : Replays t trace' a
  -- "the written slots are the first N", which the work space has: slot 0 the start state with parent 0 and mask 0, any other from an
  -- earlier slot by a tick
  pub rule : SlotRule (system t) (state_at l work') (parent_at l work') (mask_at l work') 0 (count_of a)
  pub most : count_of a ≤ K
  -- "each a state reached without a miss, no two the same"
  pub stored : Stored (system t) (state_at l work') (count_of a)
  -- "under Safe they are all such states, under Unsafe all those reached in at most L-1 ticks"
  pub complete : Complete (system t) (state_at l work') a
  -- the zero bytes of a slot, where the layout has some, are 0
  pub zeros : (i : ℕ) → i < count_of a → Zeros l work' i
  -- "Work bytes that stay are now those of unwritten slots in each column and those after the third" (02, §6): all that are in no part of
  -- a written slot
  pub work_rest : Stays l (count_of a) work work'
  pub work_length : length work' ≡ length work
  -- "Unsafe writes L masks at the front of the trace space; the rest stays. Safe and No room do not touch it"
  pub trace_rest : drop (masks_of a) trace' ≡ drop (masks_of a) trace
  pub trace_length : length trace' ≡ length trace

-- a verdict by its figures
pub record Found (l : Layout) (K : ℕ) (t : Table) (work work' trace trace' : List ℕ) (f : Figures) : Type 0 where
  pub answer : Answer
  pub is : f ≡ verdict_figures answer
  pub searched : Searched l K t work work' trace trace' answer

-- a search that has this refusal, 0 for none: "its refusals leave work and trace"
pub record Search (l : Layout) (K refusal : ℕ) (t : Table) (work work' trace trace' : List ℕ) (f : Figures) : Type 0 where
  pub refused : 0 < refusal → (f ≡ refusal_figures refusal) × (work' ≡ work) × (trace' ≡ trace)
  pub found : refusal ≡ 0 → Found l K t work work' trace trace' f

-- the search of a table with K slots in layout l
abbrev pub TableSearchIn : Layout → ℕ → Table → List ℕ → List ℕ → List ℕ → List ℕ → Figures → Type 0
TableSearchIn l K t work work' trace trace' f = Search l K (table_refusal t K trace) t work work' trace trace' f

-- the search of a sheet with K slots in layout l
abbrev pub SheetSearchIn : Layout → ℕ → List ℕ → List ℕ → List ℕ → List ℕ → List ℕ → Figures → Type 0
SheetSearchIn l K sheet work work' trace trace' f = Search l K (sheet_refusal sheet K trace) (table_in (sheet_of sheet)) work work' trace trace' f

-- ---- what the calls promise: columns laid out for K

abbrev pub TableSearch : Table → List ℕ → List ℕ → List ℕ → List ℕ → Figures → Type 0
TableSearch t work work' trace trace' f = TableSearchIn (columns (slots_in work)) (slots_in work) t work work' trace trace' f

abbrev pub SheetSearch : List ℕ → List ℕ → List ℕ → List ℕ → List ℕ → Figures → Type 0
SheetSearch sheet work work' trace trace' f = SheetSearchIn (columns (slots_in work)) (slots_in work) sheet work work' trace trace' f
