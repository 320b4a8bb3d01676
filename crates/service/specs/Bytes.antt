-- The totals of a replay as 192 bytes (document 02, §5, for the plotter's C build): three numbers of task 1, then of task 2 and so on, 8
-- bytes each.
use Rattle.std.specs.Prelude.{Result, Ok, Err}
use Rattle.tasks.specs.declared.refusal.Refusal.{Refusal}
use Rattle.std.specs.Prelude.{ℕ, zero, suc, ◌+◌, ◌*◌, ◌/◌, ◌%◌, List, [], ◌∷◌, ◌++◌, ltb, length, get_or, drop}
use Rattle.lists.specs.Lists.{pick}
use Rattle.tasks.specs.declared.refusal.Refusal.TheVariants.{ShortOutput}
use Rattle.service.specs.declared.totals.Totals.{Totals}

-- a number in k bytes, low byte first
unfoldable pub low_first : ℕ → ℕ → List ℕ
low_first zero n = []
low_first (suc k) n = n % 256 ∷ low_first k (n / 256)

-- the number in the k bytes from a place on, low byte first
unfoldable pub low_at : ℕ → List ℕ → ℕ → ℕ
low_at zero w at = 0
low_at (suc k) w at = get_or w at 0 + 256 * low_at k w (at + 1)

-- the three numbers of a task
unfoldable pub row_bytes : ℕ → ℕ → ℕ → List ℕ
row_bytes releases ran left = low_first 8 releases ++ (low_first 8 ran ++ low_first 8 left)

-- those of the first n tasks
unfoldable pub rows_of : Totals → ℕ → List ℕ
rows_of x zero = []
rows_of x (suc n) = rows_of x n ++ row_bytes (get_or x.releases n 0) (get_or x.ran n 0) (get_or x.left n 0)

abbrev pub totals_bytes : Totals → List ℕ
totals_bytes x = rows_of x 8

-- totals written to a space that may be too short for them (12)
abbrev pub totals_writing : List ℕ → Result ℕ Refusal
totals_writing out = pick (ltb (length out) 192) (Err ShortOutput) (Ok 192)

-- .. and the space afterwards: the totals at its front, later bytes as they were; a refusal leaves all
unfoldable pub totals_space : Totals → List ℕ → List ℕ
totals_space x out = pick (ltb (length out) 192) out (totals_bytes x ++ drop 192 out)
