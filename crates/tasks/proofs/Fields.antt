-- A number that passed its own rule. Assumes nothing.
use Prim.Native.Nat.{ℕ, ◌≤◌}
use mathlib.Core.Path.{◌≡◌}
use mathlib.Core.List.{List}
use mathlib.Core.Bool.{◌||◌}
use native.Mathlib.Omega.{arith}
use lib.Dec.{ltb}
use borrow.Author.Tests.{le-ltb, ltb-false}
use Rattle.std.specs.Prelude.{Ok, Err}
use Rattle.tasks.specs.declared.refusal.Refusal.{Refusal}
use Rattle.tasks.specs.Number.{Read, number_at}
use Rattle.tasks.specs.Sheet.{ruled, field_at}
use Rattle.lists.proofs.Bools.{by_bool, nor_left, nor_right}
use Rattle.tasks.proofs.Groups.{no_value, read_same}

pub record Field (s : List ℕ) (at low high v next : ℕ) : Type 0 where
  pub number : number_at s at ≡ Ok (v, next)
  pub from : low ≤ v
  pub upto : v ≤ high

ruled_value : (low high : ℕ) (r : Refusal) (x : Read ℕ) {v next : ℕ} → ruled low high r x ≡ Ok (v, next) → (x ≡ Ok (v, next)) × (low ≤ v) × (v ≤ high)
ruled_value low high r (Err q) e = no_value e
ruled_value low high r (Ok (w, n)) {v} {next} e =
    by_bool (ltb w low || ltb high w) (λ h. no_value (rw h at e))
    (λ h.
    let same : ◌≡◌ {A = Read ℕ} (Ok (w, n)) (Ok (v, next)) = rw h at e in
    let w-is : w ≡ v = (read_same same).0 in
    (same, omega (arith, ltb-false w low (nor_left (ltb w low) (ltb high w) h)), omega (arith, ltb-false high w (nor_right (ltb w low) (ltb high w) h))))

-- what is read passes the rule
pub field_read : (s : List ℕ) (at low high : ℕ) (r : Refusal) {v next : ℕ} → field_at s at low high r ≡ Ok (v, next) → Field s at low high v next
unfolding field_at
field_read s at low high r e =
    let h = ruled_value low high r (number_at s at) e in
    record { number = h.0; from = h.1; upto = h.2 }

-- a number that passes the rule is read
pub field_passes : {s : List ℕ} {at low high v next : ℕ} → Field s at low high v next → (r : Refusal) → field_at s at low high r ≡ Ok (v, next)
unfolding field_at
field_passes {s} {at} {low} {high} {v} {next} f r = rw (f.number, le-ltb v low f.from, le-ltb high v f.upto)
