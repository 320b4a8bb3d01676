-- A closed list as evidence of Safe (document 02, §1): the states of a file, when a file is closed, and what is answered.
-- This is the file to believe; the tick and the proper state are those of `tasks`.
use Rattle.std.specs.Prelude.{◌≡◌, ◌↔◌, Bool, true, false, ◌||◌, List, [], ◌∷◌, ℕ, ◌/◌, ◌%◌, ◌<◌, eqb, ltb, length, Result, Ok, Err}
use Rattle.lists.specs.Lists.{pick}
use Rattle.tasks.specs.Table.{table_fault}
use Rattle.tasks.specs.Refusals.{refusal_number}
use Rattle.tasks.specs.Sheet.{sheet_of, table_in, after_reading}
use Rattle.tasks.specs.State.{start, improper}
use Rattle.tasks.specs.Tick.{illegal, ticked}
use Rattle.tasks.specs.declared.refusal.Refusal.{Refusal}
use Rattle.tasks.specs.declared.state.State.{State}
use Rattle.tasks.specs.declared.table.Table.{Table}
use Rattle.tasks.specs.declared.tick.Step.TheVariants as Step
use Rattle.levels.specs.Verdict.{Holds}
use Rattle.states.specs.Bytes.{state_in}

-- ---- the states of a file

-- "The file is states of 16 bytes each, in any sequence, repeats allowed": how many
unfoldable pub states_in : List ℕ → ℕ
states_in file = length file / 16

-- the file contains s
abbrev pub Contains : List ℕ → State → Type 0
Contains file s = Holds (state_in file) (states_in file) s

-- ---- closed

-- mask m from s "leads, without a miss, to a state in it"
pub record Leads (t : Table) (file : List ℕ) (s : State) (m : ℕ) : Type 0 where
  pub next : (ticked t s m).answer ≡ Ok Step.Next
  pub contained : Contains file (ticked t s m).state

-- "it contains the start state, every state in it is proper, and every legal mask from each leads, without a miss, to a state in it"
pub record Closed (t : Table) (file : List ℕ) : Type 0 where
  pub begins : Contains file start
  pub proper : (i : ℕ) → i < states_in file → improper t (state_in file i) ≡ false
  pub leads : (i m : ℕ) → i < states_in file → m < 256 → illegal t (state_in file i) m ≡ false → Leads t file (state_in file i) m

-- ---- the answer

-- "14, file empty or not a whole number of states", and 0 for a file that will do
unfoldable pub file_refusal : List ℕ → ℕ
file_refusal file = pick (eqb (length file) 0 || ltb 0 (length file % 16)) 14 0

-- for a table: 4 to 7, then 14, "judged after the table"
unfoldable pub table_file_refusal : Table → List ℕ → ℕ
table_file_refusal t file = pick (ltb 0 (table_fault t)) (table_fault t) (file_refusal file)

-- for a sheet: 1 to 8, then 14
unfoldable pub sheet_file_refusal : List ℕ → List ℕ → ℕ
sheet_file_refusal sheet file = after_reading (sheet_of sheet) (file_refusal file)

-- an answer in figures: kind 1 accepted, 2 No, 0 refused with the number
unfoldable pub closed_answer : Result Bool Refusal → List ℕ
closed_answer (Ok true) = 1 ∷ []
closed_answer (Ok false) = 2 ∷ []
closed_answer (Err r) = 0 ∷ refusal_number r ∷ []

-- the answer to a file that has this refusal, 0 for none: "accepted exactly when" it is closed; "Any other nonempty file of whole states,
-- also one with a state that isn't proper, is answered No"
pub record Judged (refusal : ℕ) (t : Table) (file : List ℕ) (a : List ℕ) : Type 0 where
  pub refused : 0 < refusal → a ≡ 0 ∷ refusal ∷ []
  pub accepted : refusal ≡ 0 → ((a ≡ 1 ∷ []) ↔ Closed t file)
  pub no : refusal ≡ 0 → ((a ≡ 2 ∷ []) ↔ (Closed t file → ⊥))

-- the answer for a table, and for a sheet's table
abbrev pub TableJudged : Table → List ℕ → List ℕ → Type 0
TableJudged t file a = Judged (table_file_refusal t file) t file a

abbrev pub SheetJudged : List ℕ → List ℕ → List ℕ → Type 0
SheetJudged sheet file a = Judged (sheet_file_refusal sheet file) (table_in (sheet_of sheet)) file a
