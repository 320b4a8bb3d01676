-- The sixteen bytes of a state, as a slot of the work space has them (document 01, "The search") and a file of states (document 02, §1).
use Rattle.std.specs.Prelude.{ℕ, zero, suc, ◌+◌, ◌*◌, List, [], ◌∷◌, slice_index}
use Rattle.lists.specs.Lists.{eight}
use Rattle.tasks.specs.declared.state.State.{State}

-- the number of four bytes, low byte first
abbrev pub four : ℕ → ℕ → ℕ → ℕ → ℕ
four x y z u = x + 256 * y + 65536 * z + 16777216 * u

-- the number in the four bytes from a on
unfoldable pub four_at : List ℕ → ℕ → ℕ
four_at w a = four (slice_index w a) (slice_index w (a + 1)) (slice_index w (a + 2)) (slice_index w (a + 3))

-- the state in the bytes from a on: "16 state bytes (c, p of task 1, then task 2 and so on)"
abbrev pub state_from : List ℕ → ℕ → State
state_from w a = record { c = eight (λ k. slice_index w (a + 2 * k)); p = eight (λ k. slice_index w (a + 2 * k + 1)) }

-- state i of those that stand one after the other from the front on: of a file (document 02, §1), and of a work space, whose first column
-- has the states (§6)
unfoldable pub state_in : List ℕ → ℕ → State
state_in w i = state_from w (16 * i)

-- f 0, g 0, f 1, g 1, .. : k of each
abbrev pub twos : ℕ → (ℕ → ℕ) → (ℕ → ℕ) → List ℕ
twos zero f g = []
twos (suc k) f g = f 0 ∷ g 0 ∷ twos k (λ j. f (suc j)) (λ j. g (suc j))

-- the bytes of a state
unfoldable pub state_bytes : State → List ℕ
state_bytes s = twos 8 (λ k. slice_index s.c k) (λ k. slice_index s.p k)
