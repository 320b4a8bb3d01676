-- What the program `verdict` prints for its input (document 01, "Benchmark tables").
use Rattle.std.specs.Prelude.{◌≡◌, ℕ, List, ◌++◌, length, drop, replicate, Result}
use Rattle.tasks.specs.declared.refusal.Refusal.{Refusal}
use Rattle.tasks.specs.Refusals.{refusal_number}
use Rattle.search.specs.Claim.{figures, SheetSearch}
use Rattle.search.specs.declared.run.Verdict.{Verdict}
use Rattle.lines.specs.Lines.{numbered, lines_of}

-- the sheet is searched with 65,520 bytes of work and 8,192 of trace, all 0 before; the first n bytes of the output are the lines of
-- the answer, and later ones stay
pub record Judged (sheet out out' : List ℕ) (n : ℕ) : Type 0 where
  pub answer : Result Verdict Refusal
  pub work' : List ℕ
  pub trace' : List ℕ
  pub search : SheetSearch sheet (replicate 65520 0) work' (replicate 8192 0) trace' (figures answer)
  pub long : n ≡ length (lines_of (numbered refusal_number answer) trace')
  pub text : out' ≡ lines_of (numbered refusal_number answer) trace' ++ drop n out
