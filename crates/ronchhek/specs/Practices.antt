-- A practice sheet for the plotter's C build (document 02, §7). The answer is kind × 2^48 + N: kind 1 done with N the sheet's length, kind
-- 0 refused with N the refusal's number.
use Rattle.std.specs.Prelude.{ℕ, List, ◌++◌, ltb, length, drop}
use Rattle.lists.specs.Lists.{pick}
use Rattle.tasks.specs.Sheet.{sheet_bytes}
use Rattle.practice.specs.Practice.{practice_table, practice_refusal}
use Rattle.ronchhek.specs.Tables.{done}

-- the sheet of policy, m, n and s
abbrev pub practice_sheet : ℕ → ℕ → ℕ → ℕ → List ℕ
practice_sheet policy m n s = sheet_bytes (practice_table policy m n s)

-- why no sheet is written, 0 where one is: 4, 5 and 6, then 12 where the output is shorter than the sheet
unfoldable pub sheet_refusal : ℕ → ℕ → ℕ → ℕ → List ℕ → ℕ
sheet_refusal policy m n s out =
    pick (ltb 0 (practice_refusal policy m n)) (practice_refusal policy m n)
    (pick (ltb (length out) (length (practice_sheet policy m n s))) 12 0)

-- the number returned
unfoldable pub practice_number : ℕ → ℕ → ℕ → ℕ → List ℕ → ℕ
practice_number policy m n s out = done (sheet_refusal policy m n s out) (length (practice_sheet policy m n s))

-- the output afterwards: the sheet at its front, later bytes as they were; a refusal leaves every byte
unfoldable pub practice_space : ℕ → ℕ → ℕ → ℕ → List ℕ → List ℕ
practice_space policy m n s out =
    pick (ltb 0 (sheet_refusal policy m n s out)) out
    (practice_sheet policy m n s ++ drop (length (practice_sheet policy m n s)) out)
