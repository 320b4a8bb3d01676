-- Where each answer of the test is that of p, what was found is whether one of the places so far passes p.
use Rattle.std.proofs.Common.{◌≡◌, ◌<◌, ℕ, Bool}
use Rattle.lists.specs.Lists.{any}
use Rattle.lists.proofs.places.any_place.Given as goal

abbrev pub invariant-loop-i : goal.invariant-loop-i
invariant-loop-i g l =
    (p : ℕ → Bool) → ((i : ℕ) (b : Bool) → i < 8 → g.F.Fn.post l.fn.test (i, tt) b → b ≡ p i) → l.found ≡ any l.i p
