-- A bit of a mask, tested by `&`. Assumes nothing.
use Prim.Native.Nat.{ℕ, zero, suc, ◌+◌, ◌-◌, ◌*◌, ◌/◌, ◌%◌, ◌^◌, ◌<◌}
use mathlib.Core.Path.{◌≡◌, sym, ap, ◌∙◌}
use mathlib.Core.Bool.{not}
use native.Mathlib.Omega.{arith}
use native.Mathlib.Nat.{pow-suc}
use lib.Bits.{bit_and, and_high}
use lib.Dec.{eqb}
use lib.Pow.{pow_pos}
use borrow.Author.Tests.{eq-eqb, ne_eqb}
use Rattle.tasks.specs.Tick.{bit}

power_half : (i : ℕ) → 2 ^ (1 + i) - 2 ^ i ≡ 2 ^ i
power_half i = let e : 2 ^ (1 + i) ≡ 2 ^ suc i = ap (λ k. 2 ^ k) (omega arith) in omega (arith, e, pow-suc 2 i)

digit_test : (d w : ℕ) → d < 2 → 0 < w → eqb (d * w) 0 ≡ not (eqb d 1)
digit_test zero w h k = eq-eqb (0 * w) 0 (omega arith)
digit_test (suc zero) w h k = ne_eqb (1 * w) 0 (λ e. omega arith)
digit_test (suc (suc d)) w h k = absurd (omega arith)

pub mask_test : (mask i : ℕ) → eqb (bit_and mask (2 ^ i)) 0 ≡ not (bit mask i)
mask_test mask i =
    ap (λ x. eqb x 0) (ap (bit_and mask) (sym (power_half i)) ∙ and_high mask 1 i)
    ∙ digit_test (mask / 2 ^ i % 2) (2 ^ i) (omega arith) (pow_pos i)
