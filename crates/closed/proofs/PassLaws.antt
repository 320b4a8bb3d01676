-- The pairs of a state and a mask, shared out among passes. Assumes nothing.
use Prim.Native.Nat.{ℕ, ◌-◌, ◌<◌, ◌≤◌, min}
use mathlib.Core.Path.{◌≡◌, sym}
use mathlib.Core.Bool.{Bool}
use mathlib.Core.List.{List}
use native.Mathlib.Omega.{arith}
use native.Mathlib.Nat.{mod-one, mod-lt, min-le_right}
use borrow.Author.Tests.{eq-eqb, ne_eqb}
use lib.Dec.{eqb}
use Rattle.lists.specs.Lists.{pick}
use Rattle.lists.proofs.Bools.{by_bool}
use Rattle.states.specs.declared.keys.Key.{Key}
use Rattle.closed.specs.Keeping.{class_of, landing, lands}
use Rattle.closed.specs.declared.split.Split.{Split}

-- ---- where a tick takes the task

pub landing_now : (top : ℕ) {gap : ℕ} (released : Bool) → gap ≡ 0 → pick released top 0 ≡ landing top gap released
unfolding landing
landing_now top {gap} released e = rw (eq-eqb gap 0 e)

pub landing_far : (top gap : ℕ) (released : Bool) → (gap ≡ 0 → ⊥) → min (gap - 1) top ≡ landing top gap released
unfolding landing
landing_far top gap released ne = rw (ne_eqb gap 0 ne)

pub landing_low : (top gap : ℕ) (released : Bool) → landing top gap released ≤ top
unfolding landing
landing_low top gap released =
    by_bool (eqb gap 0)
    (λ e. rw e (by_bool released (λ r. rw r (omega arith)) (λ r. rw r (omega arith))))
    (λ e. rw e (min-le_right (gap - 1) top))

pub lands_low : (file : List ℕ) (split : Split) (i m : ℕ) → lands file split i m ≤ split.top
unfolding lands
lands_low file split i m = landing_low _ _ _

-- ---- classes

pub class_one : {classes : ℕ} (key : Key) → classes ≡ 1 → 0 ≡ class_of classes key
unfolding class_of
class_one key e = rw e (sym (mod-one _))

pub class_low : {classes : ℕ} (key : Key) → 0 < classes → class_of classes key < classes
unfolding class_of
class_low key h = mod-lt _ h
