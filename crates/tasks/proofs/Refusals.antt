-- A refusal and its number. Assumes nothing.
use Prim.Native.Nat.{ℕ, ◌<◌}
use mathlib.Core.Path.{◌≡◌, refl, sym, ap, ◌∙◌}
use mathlib.Core.Bool.{Bool, true, false}
use native.Mathlib.Omega.{arith}
use lib.Dec.{ltb}
use borrow.Author.Tests.{lt-ltb, ltb-true, ltb-false}
use Rattle.std.specs.Prelude.{Result, Ok, Err}
use Rattle.lists.specs.Lists.{pick}
use Rattle.lists.proofs.Bools.{by_bool}
use Rattle.tasks.specs.Refusals.{refusal_number, refusal_at, unless_refused}
use Rattle.tasks.specs.declared.refusal.Refusal.{Refusal}
use Rattle.tasks.specs.declared.refusal.Refusal.TheVariants.{Incomplete, SecondByte, FieldCount, Policy, Processors, TaskCount, Task, LaterBytes, NoSlot, ShortTrace, Mask, ShortOutput, Improper, FileLength, MarkNumber, MarkUnset}

-- LAW: a refusal is that of its number, so no two have the same
pub at_number : (r : Refusal) → refusal_at (refusal_number r) ≡ r
unfolding refusal_at
at_number Incomplete = refl
at_number SecondByte = refl
at_number FieldCount = refl
at_number Policy = refl
at_number Processors = refl
at_number TaskCount = refl
at_number Task = refl
at_number LaterBytes = refl
at_number NoSlot = refl
at_number ShortTrace = refl
at_number Mask = refl
at_number ShortOutput = refl
at_number Improper = refl
at_number FileLength = refl
at_number MarkNumber = refl
at_number MarkUnset = refl

pub number_same : {r q : Refusal} → refusal_number r ≡ refusal_number q → r ≡ q
number_same {r} {q} e = sym (at_number r) ∙ ap refusal_at e ∙ at_number q

-- LAW: every refusal has a number above 0
pub refusal_some : (r : Refusal) → 0 < refusal_number r
refusal_some Incomplete = omega arith
refusal_some SecondByte = omega arith
refusal_some FieldCount = omega arith
refusal_some Policy = omega arith
refusal_some Processors = omega arith
refusal_some TaskCount = omega arith
refusal_some Task = omega arith
refusal_some LaterBytes = omega arith
refusal_some NoSlot = omega arith
refusal_some ShortTrace = omega arith
refusal_some Mask = omega arith
refusal_some ShortOutput = omega arith
refusal_some Improper = omega arith
refusal_some FileLength = omega arith
refusal_some MarkNumber = omega arith
refusal_some MarkUnset = omega arith

-- what holds of both numbers holds of the one picked
pub pick_case : {A : Type 0} (P : A → Type 0) (b : Bool) {x y : A} → P x → P y → P (pick b x y)
pick_case P true p q = p
pick_case P false p q = q

-- 0, or the number of a refusal
abbrev pub Named : ℕ → Type 0
Named n = 0 < n → n ≡ refusal_number (refusal_at n)

module _ {A : Type 0} where
  -- a value unless it is refused, from the number to the answer
  pub refused_at : {n : ℕ} (r : Refusal) (x : A) → refusal_number r ≡ n → Err r ≡ unless_refused n x
  unfolding unless_refused
  refused_at {n} r x e =
      let h : ltb 0 n ≡ true = lt-ltb 0 n (omega (arith, e, refusal_some r)) in
      sym (rw h (ap Err (ap refusal_at (sym e) ∙ at_number r)))

  pub unless_none : {n : ℕ} (x : A) → 0 ≡ n → Ok x ≡ unless_refused n x
  unfolding unless_refused
  unless_none x e = rw (← e)

  -- and back
  pub refused_unless : {r : Refusal} (n : ℕ) (x : A) → unless_refused n x ≡ Err r → (0 < n) × (refusal_at n ≡ r)
  unfolding unless_refused
  refused_unless {r} n x e =
      by_bool (ltb 0 n)
      (λ h.
      let f : ◌≡◌ {A = Result A Refusal} (Err (refusal_at n)) (Err r) = rw h at e in
      (ltb-true 0 n h, cc))
      (λ h.
      let f : ◌≡◌ {A = Result A Refusal} (Ok x) (Err r) = rw h at e in
      absurd (let z : ◌≡◌ {A = ℕ} 0 1 = cc in omega arith))

  pub accepted_unless : {y : A} (n : ℕ) (x : A) → unless_refused n x ≡ Ok y → (n ≡ 0) × (y ≡ x)
  unfolding unless_refused
  accepted_unless {y} n x e =
      by_bool (ltb 0 n)
      (λ h.
      let f : ◌≡◌ {A = Result A Refusal} (Err (refusal_at n)) (Ok y) = rw h at e in
      absurd (let z : ◌≡◌ {A = ℕ} 0 1 = cc in omega arith))
      (λ h.
      let f : ◌≡◌ {A = Result A Refusal} (Ok x) (Ok y) = rw h at e in
      (omega (arith, ltb-false 0 n h), cc))

  -- the number of what was refused
  pub refused_number : {r : Refusal} (n : ℕ) (x : A) → Named n → unless_refused n x ≡ Err r → n ≡ refusal_number r
  refused_number n x named e = let f = refused_unless n x e in named f.0 ∙ ap refusal_number f.1

-- whether a refusal applies does not depend on the value
pub refused_same : {A B : Type 0} {r : Refusal} {n k : ℕ} (x : A) (y : B) → n ≡ k → unless_refused n x ≡ Err r → Err r ≡ unless_refused k y
unfolding unless_refused
refused_same {r = r} {n = n} x y e h =
    let f = refused_unless n x h in
    rw (← e, lt-ltb 0 n f.0, f.1)
