-- The file of states that a yard keeps with a Safe verdict, for the plotter's C build (document 02, §1). An answer is kind × 2^48 + N, and
-- kind 0 is refused with N the refusal's number.
use Rattle.std.specs.Prelude.{ℕ, ◌*◌, ◌^◌, ◌<◌, ◌≡◌, ◌↔◌, List}
use Rattle.tasks.specs.Sheet.{sheet_of, table_in}
use Rattle.closed.specs.Closed.{Closed, sheet_file_refusal}

-- a file judged: kind 1 accepted, "exactly when" the file is closed, and kind 2 No in every other case that is not refused; N is 0 for both
pub record FileJudged (sheet file : List ℕ) (number : ℕ) : Type 0 where
  pub refused : 0 < sheet_file_refusal sheet file → number ≡ sheet_file_refusal sheet file
  pub accepted : sheet_file_refusal sheet file ≡ 0 → ((number ≡ 2 ^ 48) ↔ Closed (table_in (sheet_of sheet)) file)
  pub no : sheet_file_refusal sheet file ≡ 0 → ((number ≡ 2 * 2 ^ 48) ↔ (Closed (table_in (sheet_of sheet)) file → ⊥))
