-- Tests and how they combine. Assumes nothing.
use Prim.Native.Nat.{ℕ}
use mathlib.Core.Path.{◌≡◌, refl, sym}
use mathlib.Core.Bool.{Bool, true, false, not, ◌&&◌, ◌||◌}
use native.Mathlib.Omega.{arith}

-- by cases on a test, with what it answered
pub by_bool : {X : Type 0} (b : Bool) → (b ≡ true → X) → (b ≡ false → X) → X
by_bool true f g = f refl
by_bool false f g = g refl

pub clash : {X : Type 0} {b : Bool} → b ≡ true → b ≡ false → X
clash {X} {b} e h = absurd (let z : ◌≡◌ {A = ℕ} 0 1 = cc in omega arith)

pub and_left : (a b : Bool) → a && b ≡ true → a ≡ true
and_left true b e = refl
and_left false b e = e

pub and_right : (a b : Bool) → a && b ≡ true → b ≡ true
and_right true b e = e
and_right false b e = clash e refl

-- where a holds and a && b does not, b does not
pub and_no : {a b : Bool} → a ≡ true → a && b ≡ false → b ≡ false
and_no e h = rw e at h

pub both : {a b : Bool} → a ≡ true → b ≡ true → a && b ≡ true
both e h = rw (e, h)

pub or_left : {a : Bool} (b : Bool) → a ≡ true → a || b ≡ true
or_left b e = rw e

pub or_right : (a : Bool) {b : Bool} → b ≡ true → a || b ≡ true
or_right true e = refl
or_right false e = e

pub or_cases : {X : Type 0} (a b : Bool) → a || b ≡ true → (a ≡ true → X) → (a ≡ false → b ≡ true → X) → X
or_cases true b e f g = f refl
or_cases false b e f g = g refl e

pub nor_left : (a b : Bool) → a || b ≡ false → a ≡ false
nor_left true b e = e
nor_left false b e = refl

pub nor_right : (a b : Bool) → a || b ≡ false → b ≡ false
nor_right true b e = clash refl e
nor_right false b e = e

pub not_yes : {a : Bool} → a ≡ false → not a ≡ true
not_yes e = rw e

pub not_no : (a : Bool) → not a ≡ true → a ≡ false
not_no true e = sym e
not_no false e = refl
