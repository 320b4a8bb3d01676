-- An array of eight that `array::from_fn` makes: where each call at i answers f i and leaves the closure as it was, the array is f 0 .. f
-- 7.
use Prim.Native.Nat.{ℕ, zero, suc, ◌+◌, ◌≤◌, ◌<◌}
use mathlib.Core.Path.{◌≡◌, sym, ◌∙◌, subst}
use mathlib.Core.List.{List}
use native.Mathlib.Omega.{arith}
use native.Mathlib.Decide.{ℕ_discrete}
use lib.ListN.{get_or}
use lib.Seq.{ext_get_or}
use denote.Param.Members.{Mut, Called}
use Rattle.std.specs.Array.{IsFromFnResult, IsFromFnResultFrom}
use Rattle.lists.specs.Lists.{eight}
use Rattle.lists.proofs.Fill.{eight_at}

module _ {F B : Type 0} (m : Mut F (ℕ × Unit {0}) B) (g : ℕ → B) {f : F} (h : (i : ℕ) (y : B) (q : F) → i < 8 → Called m f (i, tt) y q → (q ≡ f) × (y ≡ g i)) where
  made_at : (n i : ℕ) (ys : List B) → i + n ≤ 8 → IsFromFnResultFrom m f ys i n → (k : ℕ) → i ≤ k → k < i + n → get_or ys k (g 0) ≡ g k
  made_at zero i ys l r k a b = absurd (omega arith)
  made_at (suc n) i ys l (q, y, e, c, r) k a b =
      let s : (q ≡ f) × (y ≡ g i) = h i y q (omega arith) c in
      elim (ℕ_discrete k i) [
        | yes t ↦ rw t (e.1 (g 0) ∙ s.1)
        | no t ↦ made_at n (i + 1) ys (omega arith) (subst (λ (x : F). IsFromFnResultFrom m x ys (i + 1) n) s.0 r) k (omega arith) (omega arith)
      ]

  pub made : {ys : List B} → IsFromFnResult m f ys 8 → ys ≡ eight g
  made {ys} r =
      ext_get_or (g 0) ys (eight g) r.long
      (λ k b. let l : k < 8 = omega (arith, r.long) in made_at 8 0 ys (omega arith) r.each k (omega arith) l ∙ sym (eight_at (g 0) g k l))
