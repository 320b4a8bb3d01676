-- Counts and searches over the numbers below n: how two of them compare. Assumes nothing.
use Prim.Native.Nat.{ℕ, zero, suc, ◌+◌, ◌≤◌, ◌<◌}
use mathlib.Core.Path.{◌≡◌, refl, sym}
use mathlib.Core.Bool.{Bool, true, false}
use mathlib.Core.Logic.{◌⊎◌, inl, inr, ⊎_elim}
use native.Mathlib.Omega.{arith}
use native.Mathlib.Decide.{ℕ_discrete}
use lib.Dec.{ltb}
use borrow.Author.Tests.{ltb-true, ltb-false}
use Rattle.lists.specs.Lists.{pick, count, any}
use Rattle.lists.proofs.Bools.{by_bool, clash, or_left, or_right, or_cases, nor_left, nor_right}

pick_le : (a b : Bool) → (a ≡ true → b ≡ true) → pick a 1 0 ≤ pick b 1 0
pick_le true b f = rw (f refl) (omega arith)
pick_le false b f = omega arith

-- q holds wherever p does
pub count_mono : (p q : ℕ → Bool) (n : ℕ) → ((k : ℕ) → k < n → p k ≡ true → q k ≡ true) → count n p ≤ count n q
unfolding count
count_mono p q zero f = omega arith
count_mono p q (suc n) f =
    omega (arith, count_mono p q n (λ k h. f k (omega arith)), pick_le (p n) (q n) (f n (omega arith)))

-- q holds wherever p does, but perhaps at x
pub count_but_one :
    (p q : ℕ → Bool) (x n : ℕ) → ((k : ℕ) → k < n → (k ≡ x → ⊥) → p k ≡ true → q k ≡ true) → count n p ≤ count n q + 1
unfolding count
count_but_one p q x zero f = omega arith
count_but_one p q x (suc n) f =
    elim (ℕ_discrete n x) [
      | yes e ↦
          omega
          (arith, count_mono p q n (λ k h. f k (omega arith) (λ g. omega arith)), pick_le (p n) true (λ g. refl))
      | no d ↦
          omega
          (arith, count_but_one p q x n (λ k h. f k (omega arith)), pick_le (p n) (q n) (f n (omega arith) d))
    ]

-- p and q agree
pub count_same : (p q : ℕ → Bool) (n : ℕ) → ((k : ℕ) → k < n → p k ≡ q k) → count n p ≡ count n q
unfolding count
count_same p q zero f = refl
count_same p q (suc n) f = rw (count_same p q n (λ k h. f k (omega arith)), f n (omega arith))

-- where no number passes, the count is 0
pub count_zero : (p : ℕ → Bool) (n : ℕ) → ((k : ℕ) → k < n → p k ≡ false) → count n p ≡ 0
unfolding count
count_zero p zero f = refl
count_zero p (suc n) f = rw (count_zero p n (λ k h. f k (omega arith)), f n (omega arith))

-- where no number passes, k does not
pub any_false : (p : ℕ → Bool) (n k : ℕ) → any n p ≡ false → k < n → p k ≡ false
unfolding any
any_false p zero k e h = absurd (omega arith)
any_false p (suc n) k e h =
    elim (ℕ_discrete k n) [
      | yes q ↦ rw q (nor_right (any n p) (p n) e)
      | no q ↦ any_false p n k (nor_left (any n p) (p n) e) (omega arith)
    ]

-- and back
pub none_any : (p : ℕ → Bool) (n : ℕ) → ((k : ℕ) → k < n → p k ≡ false) → any n p ≡ false
unfolding any
none_any p zero f = refl
none_any p (suc n) f = rw (none_any p n (λ k h. f k (omega arith)), f n (omega arith))

pub any_same : (p q : ℕ → Bool) (n : ℕ) → ((k : ℕ) → k < n → p k ≡ q k) → any n p ≡ any n q
unfolding any
any_same p q zero f = refl
any_same p q (suc n) f = rw (any_same p q n (λ k h. f k (omega arith)), f n (omega arith))

-- where k passes, some number does
pub some_any : (p : ℕ → Bool) (n k : ℕ) → k < n → p k ≡ true → any n p ≡ true
unfolding any
some_any p zero k h e = absurd (omega arith)
some_any p (suc n) k h e =
    elim (ℕ_discrete k n) [
      | yes q ↦ or_right (any n p) (rw q at e)
      | no q ↦ or_left (p n) (some_any p n k (omega arith) e)
    ]

-- where some number passes, there is one
pub any_some : (p : ℕ → Bool) (n : ℕ) → any n p ≡ true → (k : ℕ) × (k < n) × (p k ≡ true)
unfolding any
any_some p zero e = clash e refl
any_some p (suc n) e =
    or_cases (any n p) (p n) e
    (λ h. let r = any_some p n h in (r.0, omega (arith, r.1), r.2))
    (λ h g. (n, omega arith, g))

-- q holds wherever p does, and at x too, where p does not
pub count_less :
    (p q : ℕ → Bool) (x n : ℕ) → x < n → ((k : ℕ) → k < n → p k ≡ true → q k ≡ true) → p x ≡ false → q x ≡ true → count n p < count n q
unfolding count
count_less p q x zero l f a b = absurd (omega arith)
count_less p q x (suc n) l f a b =
    elim (ℕ_discrete x n) [
      | yes e ↦ rw (sym e, a, b) (omega (arith, count_mono p q x (λ k h. f k (omega arith))))
      | no d ↦
          omega
          (arith, count_less p q x n (omega arith) (λ k h. f k (omega arith)) a b, pick_le (p n) (q n) (f n (omega arith)))
    ]

-- p and q agree but at x, where q alone holds
pub count_one_more :
    (p q : ℕ → Bool) (x n : ℕ) → x < n → ((k : ℕ) → k < n → (k ≡ x → ⊥) → p k ≡ q k) → p x ≡ false → q x ≡ true → count n q ≡ count n p + 1
unfolding count
count_one_more p q x zero l f a b = absurd (omega arith)
count_one_more p q x (suc n) l f a b =
    elim (ℕ_discrete x n) [
      | yes e ↦ rw (sym e, a, b) (omega (arith, count_same p q x (λ k h. f k (omega arith) (λ g. omega arith))))
      | no d ↦
          rw (f n (omega arith) (λ g. d (sym g)))
          (omega (arith, count_one_more p q x n (omega arith) (λ k h. f k (omega arith)) a b))
    ]

-- ---- the least of those that pass a test

pub record Least (f : ℕ → ℕ) (p : ℕ → Bool) (n x : ℕ) : Type 0 where
  pub below : x < n
  pub holds : p x ≡ true
  pub least : (k : ℕ) → k < n → p k ≡ true → f x ≤ f k

module _ (f : ℕ → ℕ) (p : ℕ → Bool) where
  least_keeps : {n x : ℕ} → Least f p n x → (p n ≡ true → f x ≤ f n) → Least f p (suc n) x
  least_keeps {n} {x} l g =
      record {
        below = omega (arith, l.below);
        holds = l.holds;
        least = λ k h e. elim (ℕ_discrete k n) [ yes q ↦ rw q (g (rw q at e)) | no q ↦ l.least k (omega arith) e ];
      }

  least_moves : {n x : ℕ} → p n ≡ true → Least f p n x → f n ≤ f x → Least f p (suc n) n
  least_moves {n} {x} e l g =
      record {
        below = omega arith;
        holds = e;
        least = λ k h b. elim (ℕ_discrete k n) [ yes q ↦ rw q (omega arith) | no q ↦ omega (arith, l.least k (omega arith) b) ];
      }

  -- no number below n passes, or there is one with the least f
  pub least_of : (n : ℕ) → ((k : ℕ) → k < n → p k ≡ false) ⊎ ((x : ℕ) × Least f p n x)
  least_of zero = inl (λ k h. absurd (omega arith))
  least_of (suc n) =
      by_bool (p n)
      (λ e. ⊎_elim
      (λ none. inr (n, record { below = omega arith; holds = e; least = λ k h b. elim (ℕ_discrete k n) [ yes q ↦ rw q (omega arith) | no q ↦ clash b (none k (omega arith)) ] }))
      (λ l. by_bool (ltb (f n) (f l.0))
      (λ b. inr (n, least_moves e l.1 (omega (arith, ltb-true (f n) (f l.0) b))))
      (λ b. inr (l.0, least_keeps l.1 (λ q. ltb-false (f n) (f l.0) b))))
      (least_of n))
      (λ e. ⊎_elim
      (λ none. inl (λ k h. elim (ℕ_discrete k n) [ yes q ↦ rw q e | no q ↦ none k (omega arith) ]))
      (λ l. inr (l.0, least_keeps l.1 (λ q. clash q e)))
      (least_of n))
