-- The sheet of a cut table for the plotter's C build (document 02, §9). The answer is kind × 2^48 + N: kind 1 done with N the sheet's
-- length, kind 0 refused with N the refusal's number.
use Rattle.std.specs.Prelude.{ℕ, List, ltb}
use Rattle.lists.specs.Lists.{pick}
use Rattle.tasks.specs.Sheet.{sheet_of, table_in, after_reading, write_out, out_if_read}
use Rattle.tasks.specs.declared.table.Table.{Table}
use Rattle.cut.specs.Cut.{cut_table, cut_refusal}
use Rattle.ronchhek.specs.Tables.{sheet_number}

-- ---- of a table

-- why it is not cut, of a valid table 6 where k is outside 1 to n; else what the writer makes of the cut table: 12, or the length of its
-- sheet
unfoldable pub first_number : Table → ℕ → List ℕ → ℕ
first_number t k out = pick (ltb 0 (cut_refusal t k)) (cut_refusal t k) (sheet_number (cut_table k t) out)

-- the output afterwards: the sheet of the cut at its front, later bytes as they were; a refusal leaves every byte
unfoldable pub first_space : Table → ℕ → List ℕ → List ℕ
first_space t k out = pick (ltb 0 (cut_refusal t k)) out (write_out (cut_table k t) out)

-- ---- of a sheet, with its refusals 1 to 8 first

-- the number returned
unfoldable pub cut_number : List ℕ → ℕ → List ℕ → ℕ
cut_number sheet k out = after_reading (sheet_of sheet) (first_number (table_in (sheet_of sheet)) k out)

-- the output afterwards
unfoldable pub cut_space : List ℕ → ℕ → List ℕ → List ℕ
cut_space sheet k out = out_if_read (sheet_of sheet) (first_space (table_in (sheet_of sheet)) k out) out
