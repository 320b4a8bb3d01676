-- The bits of a number that is made of them. Assumes nothing.
use Prim.Native.Nat.{ℕ, zero, suc, ◌+◌, ◌-◌, ◌*◌, ◌/◌, ◌%◌, ◌^◌, ◌≤◌, ◌<◌}
use mathlib.Core.Path.{◌≡◌, refl, sym, ap, ◌∙◌}
use mathlib.Core.Bool.{Bool, true, false}
use native.Mathlib.Omega.{arith}
use native.Mathlib.Nat.{mod-lt, div-eq_of_lt, lt_of_lt_of_le}
use native.Mathlib.Decide.{ℕ_discrete}
use lib.Dec.{eqb}
use lib.Pow.{pow_pos, pow_mono, high, low, field, mod-mod-pow}
use Rattle.lists.specs.Lists.{pick, bits_of}
use Rattle.lists.proofs.Turns.{bits_less}

weight : (b : Bool) (w : ℕ) → pick b w 0 ≡ pick b 1 0 * w
weight true w = omega arith
weight false w = omega arith

is_one : (b : Bool) → eqb (pick b 1 0 % 2) 1 ≡ b
is_one true = refl
is_one false = refl

-- a digit is one of the number's lowest
digit_low : (x i k : ℕ) → x / 2 ^ i % 2 ≡ x % 2 ^ (k + (1 + i)) % 2 ^ (1 + i) / 2 ^ i
digit_low x i k = sym (ap (λ y. y / 2 ^ i) (mod-mod-pow x k (1 + i)) ∙ field x 1 i)

module _ (p : ℕ → Bool) where
  above : (n : ℕ) → bits_of (suc n) p ≡ pick (p n) 1 0 * 2 ^ n + bits_of n p
  unfolding bits_of
  above n = omega (arith, weight (p n) (2 ^ n))

  -- a bit more leaves those below it
  below : (n i : ℕ) → i < n → bits_of (suc n) p / 2 ^ i % 2 ≡ bits_of n p / 2 ^ i % 2
  below n i h =
      let k = n - (1 + i) in
      let e : k + (1 + i) ≡ n = omega arith in
      digit_low (bits_of (suc n) p) i k
      ∙ ap (λ y. y % 2 ^ (1 + i) / 2 ^ i) (ap (λ m. bits_of (suc n) p % 2 ^ m) e ∙ ap (λ y. y % 2 ^ n) (above n) ∙ low (pick (p n) 1 0) n (bits_less p n))
      ∙ field (bits_of n p) 1 i

  -- LAW: bit i of the number
  pub bits_at : (n i : ℕ) → i < n → eqb (bits_of n p / 2 ^ i % 2) 1 ≡ p i
  bits_at zero i h = absurd (omega arith)
  bits_at (suc n) i h =
      elim (ℕ_discrete i n) [
        | yes q ↦ rw (q, above n, high (pick (p n) 1 0) n (bits_less p n)) (is_one (p n))
        | no d ↦ ap (λ y. eqb y 1) (below n i (omega arith)) ∙ bits_at n i (omega arith)
      ]

-- LAW: numbers of the same bits
pub bits_same : (f g : ℕ → Bool) (n : ℕ) → ((i : ℕ) → i < n → f i ≡ g i) → bits_of n f ≡ bits_of n g
unfolding bits_of
bits_same f g zero h = refl
bits_same f g (suc n) h = rw (bits_same f g n (λ i k. h i (omega arith)), h n (omega arith))

-- ---- the lowest k bits of a number

-- LAW: below k they are the number's
pub low_digit : (x k i : ℕ) → i < k → x % 2 ^ k / 2 ^ i % 2 ≡ x / 2 ^ i % 2
low_digit x k i h =
    let j = k - (1 + i) in
    let e : k ≡ j + (1 + i) = omega arith in
    sym (field (x % 2 ^ k) 1 i)
    ∙ ap (λ y. y / 2 ^ i) (ap (λ n. x % 2 ^ n % 2 ^ (1 + i)) e ∙ mod-mod-pow x j (1 + i))
    ∙ field x 1 i

-- LAW: from k on there is none
pub high_digit : (x k i : ℕ) → k ≤ i → x % 2 ^ k / 2 ^ i % 2 ≡ 0
high_digit x k i h = ap (λ y. y % 2) (div-eq_of_lt (lt_of_lt_of_le (mod-lt x (pow_pos k)) (pow_mono h)))

-- LAW: those of the lowest k are the number's
pub low_low : (x k j : ℕ) → j ≤ k → x % 2 ^ k % 2 ^ j ≡ x % 2 ^ j
low_low x k j h =
    let e : k ≡ k - j + j = omega arith in
    ap (λ n. x % 2 ^ n % 2 ^ j) e ∙ mod-mod-pow x (k - j) j
