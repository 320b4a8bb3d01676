-- Sheet numbers (document 01, "The sheet as bytes"): groups of seven bits, low group first, each in a byte whose top bit is
-- set when another follows. Group lists here have any length; a sheet's numbers are limited to two bytes by `number_at` alone.
use Rattle.std.specs.Prelude.{ℕ, zero, suc, ◌+◌, ◌-◌, ◌*◌, ◌/◌, ◌%◌, ◌≤◌, ◌<◌, List, [], ◌∷◌, length, get_or, ltb, Result, Ok, Err}
use Rattle.lists.specs.Lists.{pick}
use Rattle.tasks.specs.declared.refusal.Refusal.{Refusal}
use Rattle.tasks.specs.declared.refusal.Refusal.TheVariants.{Incomplete, SecondByte}

-- the value of a group list; this and `Canonical` are what the laws of numbers of any length speak of (proofs/Groups.antt)
unfoldable pub value : List ℕ → ℕ
value [] = 0
value (g ∷ gs) = g + 128 * value gs

-- the groups of x, of which there are at most k + 1
unfoldable pub groups_in : ℕ → ℕ → List ℕ
groups_in zero x = x ∷ []
groups_in (suc k) x = pick (ltb x 128) (x ∷ []) (x % 128 ∷ groups_in k (x / 128))

-- the groups of a number
unfoldable pub groups : ℕ → List ℕ
groups x = groups_in x x

-- a canonical group list: every group is below 128, and the last is at least `least`, or 1 where it follows another.
-- `Canonical 0 gs`: the last group of gs is not 0 unless it stands alone
pub data Canonical : ℕ → List ℕ → Type 0 where
  alone : {least g : ℕ} → least ≤ g → g < 128 → Canonical least (g ∷ [])
  before : {least g : ℕ} {gs : List ℕ} → g < 128 → Canonical 1 gs → Canonical least (g ∷ gs)

-- a group list as bytes
unfoldable pub bytes_of : List ℕ → List ℕ
bytes_of [] = []
bytes_of (g ∷ []) = g ∷ []
bytes_of (g ∷ h ∷ gs) = (g + 128) ∷ bytes_of (h ∷ gs)

-- a number as bytes
unfoldable pub number_bytes : ℕ → List ℕ
number_bytes x = bytes_of (groups x)

-- what reading at a place answers: a value with the place after it, or why there is none
abbrev pub Read : Type 0 → Type 0
Read A = Result (A × ℕ) Refusal

-- a group below what the later bytes gave
abbrev pub above : ℕ → Read ℕ → Read ℕ
above g (Ok (v, next)) = Ok (g + 128 * v, next)
above g (Err r) = Err r

-- reading a number of at most `most` bytes, whose last byte is at least `least`, or 1 where it follows another:
-- the value and the next place, or refusal 1 where the bytes end first and 2 where a byte breaks the rule
unfoldable pub number_in : ℕ → ℕ → List ℕ → ℕ → Read ℕ
number_in zero least s at = Err SecondByte
number_in (suc k) least s at =
    pick (ltb at (length s))
    (pick (ltb (get_or s at 0) least) (Err SecondByte)
    (pick (ltb (get_or s at 0) 128) (Ok (get_or s at 0, at + 1)) (above (get_or s at 0 - 128) (number_in k 1 s (at + 1)))))
    (Err Incomplete)

-- a sheet's number: one or two bytes, and a second byte is 1 to 127
unfoldable pub number_at : List ℕ → ℕ → Read ℕ
number_at s at = number_in 2 0 s at
