-- A list while its masks are cut, one after the other. Assumes nothing.
use Prim.Native.Nat.{ℕ, zero, suc, ◌+◌, ◌*◌, ◌%◌, ◌^◌, ◌≤◌, ◌<◌}
use mathlib.Core.Path.{◌≡◌, refl, sym, ap, ◌∙◌}
use mathlib.Core.List.{List, [], ◌∷◌, ◌++◌}
use native.Mathlib.Omega.{arith}
use native.Mathlib.Nat.{mod-eq_of_lt, lt_of_lt_of_le}
use lib.ListN.{length, get_or, set, length-set}
use lib.Pow.{pow_pos, pow_mono, shl_exact}
use lib.Seq.{ext_get_or, get_or-set_same, get_or-set_other}
use borrow.Author.Count.{below_more}
use Rattle.cut.specs.Cut.{cut_mask, cut_list}

-- a mask of a byte has no bit from the eighth on
pub mask_whole : (k mask : ℕ) → mask < 256 → 8 ≤ k → mask ≡ cut_mask k mask
unfolding cut_mask
mask_whole k mask b h = sym (mod-eq_of_lt (lt_of_lt_of_le b (pow_mono h)))

-- 2 ^ k, as a byte is shifted, for a k below 8
unit_is : (k : ℕ) → k < 8 → 1 * 2 ^ k % 256 ≡ 2 ^ k
unit_is k h = let e : 1 * 2 ^ k % 2 ^ 8 ≡ 1 * 2 ^ k = shl_exact {a = 1} 1 k 8 (omega arith) (omega arith) in e ∙ omega arith

pub unit_some : (k : ℕ) → k < 8 → 0 < 1 * 2 ^ k % 256
unit_some k h = rw (unit_is k h) (pow_pos k)

pub mask_low : (k mask : ℕ) → k < 8 → mask % (1 * 2 ^ k % 256) ≡ cut_mask k mask
unfolding cut_mask
mask_low k mask h = ap (λ u. mask % u) (unit_is k h)

module _ (k : ℕ) where
  pub list_length : (l : List ℕ) → length (cut_list k l) ≡ length l
  unfolding cut_list
  list_length [] = refl
  list_length (mask ∷ masks) = ap suc (list_length masks)

  -- joined lists are cut each
  pub list_joined : (l l' : List ℕ) → cut_list k (l ++ l') ≡ cut_list k l ++ cut_list k l'
  unfolding cut_list
  list_joined [] l' = refl
  list_joined (mask ∷ masks) l' = ap (λ l. cut_mask k mask ∷ l) (list_joined masks l')

  list_at : (l : List ℕ) (i : ℕ) → i < length l → get_or (cut_list k l) i 0 ≡ cut_mask k (get_or l i 0)
  unfolding cut_list
  list_at [] i h = absurd (omega arith)
  list_at (mask ∷ masks) zero h = refl
  list_at (mask ∷ masks) (suc i) h = list_at masks i (omega arith)

  -- the first i masks of l are cut, and those after them are not
  pub record Cutting (l now : List ℕ) (i : ℕ) : Type 0 where
    pub long : length now ≡ length l
    pub done : (j : ℕ) → j < i → get_or now j 0 ≡ cut_mask k (get_or l j 0)
    pub rest : (j : ℕ) → i ≤ j → get_or now j 0 ≡ get_or l j 0

  pub cutting_start : (l : List ℕ) → Cutting l l 0
  cutting_start l = record { long = refl; done = λ j h. absurd (omega arith); rest = λ j h. refl }

  pub cutting_step : {l now : List ℕ} {i x : ℕ} → Cutting l now i → i < length now → x ≡ cut_mask k (get_or now i 0) → Cutting l (set now i x) (i + 1)
  cutting_step {l} {now} {i} {x} w h e =
      record {
        long = length-set now i x ∙ w.long;
        done =
            below_more (λ j. get_or (set now i x) j 0 ≡ cut_mask k (get_or l j 0)) i
            (λ j b. get_or-set_other now i j x 0 (λ q. omega arith) ∙ w.done j b)
            (get_or-set_same now i x 0 h ∙ e ∙ ap (cut_mask k) (w.rest i (omega arith)));
        rest = λ j b. get_or-set_other now i j x 0 (λ q. omega arith) ∙ w.rest j (omega arith);
      }

  pub cutting_end : {l now : List ℕ} {i : ℕ} → Cutting l now i → length now ≤ i → now ≡ cut_list k l
  cutting_end {l} {now} {i} w h =
      ext_get_or 0 now (cut_list k l) (w.long ∙ sym (list_length l))
      (λ j b. w.done j (omega arith) ∙ sym (list_at l j (omega (arith, w.long))))
