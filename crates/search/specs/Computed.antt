-- The verdict of a table as a computation (`levels`, Compute.antt), for tables so small that the checker runs it; proofs/ComputedLaws.antt
-- shows that its answer is the verdict.
use Rattle.std.specs.Prelude.{ℕ, zero, suc, ◌^◌, Bool, true, false, ◌&&◌, List, [], ◌∷◌, ◌++◌, eqb}
use Rattle.tasks.specs.declared.state.State.{State}
use Rattle.tasks.specs.declared.table.Table.{Table}
use Rattle.levels.specs.Compute.{Computed, computed}
use Rattle.levels.specs.Compute.Computed.{Answered, OutOfFuel}
use Rattle.states.specs.System.{system}
use Rattle.search.specs.Claim.{verdict_figures}

unfoldable pub same_numbers : List ℕ → List ℕ → Bool
same_numbers [] [] = true
same_numbers [] (y ∷ ys) = false
same_numbers (x ∷ xs) [] = false
same_numbers (x ∷ xs) (y ∷ ys) = eqb x y && same_numbers xs ys

-- "Two states are different when some task's numbers differ between them"
unfoldable pub same_states : State → State → Bool
same_states s u = same_numbers s.c u.c && same_numbers s.p u.p

-- the numbers below n, in order
unfoldable pub below : ℕ → List ℕ
below zero = []
below (suc n) = below n ++ n ∷ []

-- the search of a table with K slots
unfoldable pub verdict_of : Table → ℕ → Computed ℕ
verdict_of t K = computed (system t) same_states (below (2 ^ t.n)) K K

-- its figures, and the masks given: kind, L, N, and the masks
abbrev pub computed_answer : Computed ℕ → List ℕ
computed_answer (Answered a masks) = (verdict_figures a).kind ∷ (verdict_figures a).L ∷ (verdict_figures a).N ∷ masks
computed_answer OutOfFuel = []
