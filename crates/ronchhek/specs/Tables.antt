-- A table as 27 bytes for the plotter's C build: policy, m, n, then C, D, P of task 1, of task 2 and so on to the eighth (document 01, "The
-- task table"). The answers are kind × 2^48 + N: kind 1 done with N the length written, kind 0 refused with N the refusal's number.
use Rattle.std.specs.Prelude.{ℕ, zero, suc, ◌+◌, ◌*◌, ◌^◌, List, [], ◌∷◌, ◌++◌, ltb, length, get_or, drop, Result, Ok, Err}
use Rattle.lists.specs.Lists.{eight, pick}
use Rattle.tasks.specs.Refusals.{refusal_number}
use Rattle.tasks.specs.Sheet.{sheet_of, table_in, sheet_bytes, write_refusal, write_out}
use Rattle.tasks.specs.declared.refusal.Refusal.{Refusal}
use Rattle.tasks.specs.declared.table.Table.{Table}

-- ---- the number of an answer

-- kind 1 with the length written, or the refusal's number
abbrev pub number_of : Result ℕ Refusal → ℕ
number_of (Ok n) = 2 ^ 48 + n
number_of (Err r) = refusal_number r

-- ---- a table's 27 bytes

-- C, D and P of k tasks, from task i on
unfoldable pub entries : Table → ℕ → ℕ → List ℕ
entries t zero i = []
entries t (suc k) i = get_or t.work i 0 ∷ get_or t.deadline i 0 ∷ get_or t.gap i 0 ∷ entries t k (i + 1)

unfoldable pub table_bytes : Table → List ℕ
table_bytes t = t.policy ∷ t.m ∷ t.n ∷ entries t 8 0

-- and back
unfoldable pub table_from : List ℕ → Table
table_from b =
    record {
      policy = get_or b 0 0;
      m = get_or b 1 0;
      n = get_or b 2 0;
      work = eight (λ i. get_or b (3 + 3 * i) 0);
      deadline = eight (λ i. get_or b (4 + 3 * i) 0);
      gap = eight (λ i. get_or b (5 + 3 * i) 0);
    }

-- ---- the table of a sheet

-- refusals 1 to 8 of the sheet, then 12 where the space is shorter than 27 bytes; 0 where there is none
abbrev pub read_refusal : Result Table Refusal → List ℕ → ℕ
read_refusal (Ok t) space = pick (ltb (length space) 27) 12 0
read_refusal (Err r) space = refusal_number r

-- a refusal's number, or kind 1 with the length written
abbrev pub done : ℕ → ℕ → ℕ
done refusal n = pick (ltb 0 refusal) refusal (2 ^ 48 + n)

-- the number returned
unfoldable pub read_number : List ℕ → List ℕ → ℕ
read_number sheet space = done (read_refusal (sheet_of sheet) space) 27

-- the space afterwards: the table at its front, later bytes as they were; a refusal leaves every byte
unfoldable pub read_space : List ℕ → List ℕ → List ℕ
read_space sheet space =
    pick (ltb 0 (read_refusal (sheet_of sheet) space)) space (table_bytes (table_in (sheet_of sheet)) ++ drop 27 space)

-- ---- the sheet of a table

-- the number for a table that is written: 4 to 7 and 12, or the length of its sheet
unfoldable pub sheet_number : Table → List ℕ → ℕ
sheet_number t out = done (write_refusal t out) (length (sheet_bytes t))

-- 1 and 8 where the bytes end before the table is complete or go on after it; then 4 to 7 of the table, then 12
unfoldable pub bytes_refusal : List ℕ → List ℕ → ℕ
bytes_refusal table out =
    pick (ltb (length table) 27) 1
    (pick (ltb 27 (length table)) 8
    (write_refusal (table_from table) out))

unfoldable pub write_number : List ℕ → List ℕ → ℕ
write_number table out = done (bytes_refusal table out) (length (sheet_bytes (table_from table)))

unfoldable pub write_space : List ℕ → List ℕ → List ℕ
write_space table out = pick (ltb 0 (bytes_refusal table out)) out (write_out (table_from table) out)
