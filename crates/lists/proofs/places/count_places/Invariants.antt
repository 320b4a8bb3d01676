-- Where each answer of the test is that of p, n is how many of the places so far pass p.
use Rattle.std.proofs.Common.{◌≡◌, ◌<◌, ◌≤◌, ℕ, Bool}
use Rattle.lists.specs.Lists.{count}
use Rattle.lists.proofs.places.count_places.Given as goal

abbrev pub invariant-loop-i : goal.invariant-loop-i
invariant-loop-i g l =
    (l.n ≤ l.i) × ((p : ℕ → Bool) → ((i : ℕ) (b : Bool) → i < 8 → g.F.Fn.post l.fn.test (i, tt) b → b ≡ p i) → l.n ≡ count l.i p)
