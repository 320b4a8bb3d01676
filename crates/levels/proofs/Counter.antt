-- An example that the checker computes, and its verdict: a counter modulo 6 that a mask 0 to 2 adds to, and that misses above a limit.
use mathlib.Core.Path.{◌≡◌, refl}
use mathlib.Core.Logic.{◌⊎◌}
use mathlib.Core.Logic.◌⊎◌.{inl, inr}
use mathlib.Core.Bool.{Bool, true, false}
use mathlib.Core.List.{[], ◌∷◌, Memᴰ}
use Prim.Native.Nat.{ℕ, zero, suc, ◌+◌, ◌%◌}
use native.Mathlib.Omega.{arith}
use lib.Dec.{ltb, eqb}
use borrow.Author.Tests.{eqb-true, eqb-false, le-ltb}
use Rattle.levels.specs.Verdict.{System, Verdict}
use Rattle.levels.specs.Verdict.Tick.{Next, Missed, Refused}
use Rattle.levels.specs.Verdict.Answer.{Unsafe, Safe, NoRoom}
use Rattle.levels.specs.Compute.{Computed, computed}
use Rattle.levels.specs.Compute.Computed.{Answered, OutOfFuel}
use Rattle.levels.proofs.Legal.{FinitelyBranching}
use Rattle.levels.proofs.Compute.{computed_right}

abbrev pick : {A : Type 0} → Bool → A → A → A
pick true a b = a
pick false a b = b

abbrev counter : ℕ → System
counter limit = record {
  State = ℕ;
  Mask = ℕ;
  start = 0;
  step = λ s m. pick (ltb m 3) (pick (ltb limit ((s + m) % 6)) (Missed ((s + m) % 6)) (Next ((s + m) % 6))) Refused;
}

abbrev run : ℕ → ℕ → ℕ → Computed ℕ
run limit fuel K = computed (counter limit) eqb (0 ∷ 1 ∷ 2 ∷ []) fuel K

-- limit 5 is never passed; 4 is first passed by the third tick, when 0 to 4 were reached
runs : run 5 9 6 ∷ run 5 9 5 ∷ run 5 3 6 ∷ run 4 9 5 ∷ run 4 9 4 ∷ run 0 1 1 ∷ []
    ≡ Answered (Safe 6) [] ∷ Answered (NoRoom 5) [] ∷ OutOfFuel ∷ Answered (Unsafe 3 5) (1 ∷ 2 ∷ 2 ∷ []) ∷ Answered (NoRoom 4) [] ∷ Answered (Unsafe 1 1) (1 ∷ []) ∷ []
unfolding computed
runs = refl

branching : (limit : ℕ) → FinitelyBranching (counter limit) eqb (0 ∷ 1 ∷ 2 ∷ [])
branching limit = record { equal = eqb-true; different = eqb-false; others = others }
  where
    others : (s m : ℕ) → Memᴰ m (0 ∷ 1 ∷ 2 ∷ []) ⊎ ((counter limit).step s m ≡ Refused)
    others s zero = inl (Memᴰ.head refl)
    others s (suc zero) = inl (Memᴰ.tail (Memᴰ.head refl))
    others s (suc (suc zero)) = inl (Memᴰ.tail (Memᴰ.tail (Memᴰ.head refl)))
    others s (suc (suc (suc m))) = inr (rw (le-ltb (suc (suc (suc m))) 3 (omega arith)))

-- the verdict of the counter with limit 4 in five slots: adding 1, 2 and 2 passes it
verdict : Verdict (counter 4) 5 (Unsafe 3 5) (1 ∷ 2 ∷ 2 ∷ [])
unfolding computed
verdict = computed_right (counter 4) eqb (0 ∷ 1 ∷ 2 ∷ []) (branching 4) 5 (omega arith) 9 (Unsafe 3 5) (1 ∷ 2 ∷ 2 ∷ []) refl
