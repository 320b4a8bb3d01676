-- The claim of before document 02's §6, with rows of 24 bytes. No call promises it: it stands here for the theorem that answer and count
-- are the same in both layouts (proofs/SameAnswers.antt).
use Rattle.std.specs.Prelude.{List, ℕ}
use Rattle.tasks.specs.declared.table.Table.{Table}
use Rattle.slots.specs.Layout.{rows}
use Rattle.search.specs.Claim.{slots_of, Figures, TableSearchIn, SheetSearchIn}

-- 01: "K = work length divided by 24, rounded down, at most 1,000,000"
abbrev pub rows_in : List ℕ → ℕ
rows_in work = slots_of 24 work

abbrev pub TableSearchInRows : Table → List ℕ → List ℕ → List ℕ → List ℕ → Figures → Type 0
TableSearchInRows t work work' trace trace' f = TableSearchIn rows (rows_in work) t work work' trace trace' f

abbrev pub SheetSearchInRows : List ℕ → List ℕ → List ℕ → List ℕ → List ℕ → Figures → Type 0
SheetSearchInRows sheet work work' trace trace' f = SheetSearchIn rows (rows_in work) sheet work work' trace trace' f
