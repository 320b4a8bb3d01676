-- A number in decimal, digit by digit. Assumes nothing.
use Prim.Native.Nat.{ℕ, zero, suc, ◌+◌, ◌*◌, ◌/◌, ◌%◌, ◌≤◌, ◌<◌}
use mathlib.Core.Path.{◌≡◌, refl, ap, ◌∙◌}
use mathlib.Core.List.{List, [], ◌∷◌, ◌++◌}
use native.Mathlib.Omega.{arith}
use native.Mathlib.Decide.{dec_lt}
use lib.ListN.{length, length-append}
use borrow.Author.Tests.{lt-ltb, le-ltb}
use Rattle.lines.specs.Lines.{digits_in, decimal}

-- x itself is enough for the digits' number
enough : (k j x : ℕ) → x ≤ k → x ≤ j → digits_in k x ≡ digits_in j x
unfolding digits_in
enough zero zero x h l = refl
enough zero (suc j) x h l = rw (lt-ltb x 10 (omega arith))
enough (suc k) zero x h l = rw (lt-ltb x 10 (omega arith))
enough (suc k) (suc j) x h l =
    elim (dec_lt x 10) [
      | yes q ↦ (let e = lt-ltb x 10 q in rw e)
      | no q ↦ (let e = le-ltb x 10 (omega arith) in rw e (ap (λ (d : List ℕ). d ++ (48 + x % 10) ∷ []) (enough k j (x / 10) (omega arith) (omega arith))))
    ]

pub decimal_one : (x : ℕ) → x < 10 → decimal x ≡ (48 + x) ∷ []
unfolding decimal digits_in
decimal_one zero h = refl
decimal_one (suc x) h = rw (lt-ltb (suc x) 10 h)

pub decimal_more : (x : ℕ) → 10 ≤ x → decimal x ≡ decimal (x / 10) ++ (48 + x % 10) ∷ []
unfolding decimal digits_in
decimal_more zero h = absurd (omega arith)
decimal_more (suc x) h =
    rw (le-ltb (suc x) 10 h) (ap (λ (d : List ℕ). d ++ (48 + suc x % 10) ∷ []) (enough x (suc x / 10) (suc x / 10) (omega arith) (omega arith)))

pub decimal_longer : (x : ℕ) → 10 ≤ x → length (decimal x) ≡ length (decimal (x / 10)) + 1
decimal_longer x h = ap length (decimal_more x h) ∙ length-append (decimal (x / 10)) ((48 + x % 10) ∷ [])

pub decimal_single : (x : ℕ) → x < 10 → length (decimal x) ≡ 1
decimal_single x h = ap length (decimal_one x h)

pub decimal_some : (x : ℕ) → 1 ≤ length (decimal x)
decimal_some x =
    elim (dec_lt x 10) [
      | yes q ↦ omega (arith, decimal_single x q)
      | no q ↦ omega (arith, decimal_longer x (omega arith))
    ]

-- 10 to the power k
abbrev limit : ℕ → ℕ
limit zero = 1
limit (suc k) = 10 * limit k

digits_most : (k x : ℕ) → x < limit (suc k) → length (decimal x) ≤ suc k
digits_most zero x h = omega (arith, decimal_single x (omega arith))
digits_most (suc k) x h =
    elim (dec_lt x 10) [
      | yes q ↦ omega (arith, decimal_single x q)
      | no q ↦ omega (arith, decimal_longer x (omega arith), digits_most k (x / 10) (omega arith))
    ]

-- a 64-bit number has at most twenty digits, and a byte at most three
pub decimal_word : (x : ℕ) → x < 18446744073709551616 → length (decimal x) ≤ 20
decimal_word x h = digits_most 19 x (omega arith)

pub decimal_byte : (x : ℕ) → x < 256 → length (decimal x) ≤ 3
decimal_byte x h = digits_most 2 x (omega arith)
