-- Bytes that fill a part of an output, and stores from the last place to the first. Assumes nothing.
use Prim.Native.Nat.{ℕ, zero, suc, ◌+◌, ◌-◌, ◌≤◌}
use mathlib.Core.Path.{◌≡◌, refl, sym, ap, ◌∙◌}
use mathlib.Core.List.{List, [], ◌∷◌, ◌++◌, append_assoc}
use native.Mathlib.Omega.{arith}
use borrow.Rule.Slice.PartMut.{put_mid}
use lib.ListN.{length, set, take, drop}
use lib.Seq.{sets, sets-eq, set_comm}

drop_none : (k : ℕ) → drop {A = ℕ} k [] ≡ []
drop_none zero = refl
drop_none (suc k) = refl

drop_twice : (n m k : ℕ) (xs : List ℕ) → m + n ≡ k → drop n (drop m xs) ≡ drop k xs
drop_twice n zero k xs e = ap (λ i. drop i xs) (omega arith)
drop_twice n (suc m) k [] e = drop_none n ∙ sym (drop_none k)
drop_twice n (suc m) zero (x ∷ xs) e = absurd (omega arith)
drop_twice n (suc m) (suc k) (x ∷ xs) e = drop_twice n m k xs (omega arith)

pub sets_mid : (out : List ℕ) (at : ℕ) (s part : List ℕ) → at + length s ≤ length out → part ≡ s → put_mid at (at + length s - at) out part ≡ sets out at s
sets_mid out at s part room e =
    let long : at + length s - at ≡ length s = omega arith in
    rw (e, long, sets-eq s out at room) (ap (λ (d : List ℕ). take at out ++ (s ++ d)) (drop_twice (length s) at (at + length s) out refl) ∙ sym (append_assoc (take at out) s (drop (at + length s) out)))

-- the last of a run of stores may be made first
pub sets_last : (a l : List ℕ) (i j d : ℕ) → i + length a ≡ j → sets l i (a ++ d ∷ []) ≡ sets (set l j d) i a
sets_last [] l i j d e = let q : i ≡ j = omega arith in rw q
sets_last (x ∷ a) l i j d e =
    sets_last a (set l i x) (suc i) j d (omega arith) ∙ ap (λ (m : List ℕ). sets m (suc i) a) (set_comm l i j x d (λ q. omega arith))
