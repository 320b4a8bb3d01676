-- The invariant: the masks from the present tick on are written. Assumes nothing.
use mathlib.Core.Path.{◌≡◌}
use Prim.Native.Nat.{ℕ, ◌≤◌, ◌<◌}
use mathlib.Core.List.{◌++◌}
use lib.ListN.{length, drop}
use Rattle.levels.specs.Levels.{trail}
use Rattle.slots.specs.Layout.{columns, parent_at, mask_at}
use Rattle.search.proofs.outcome.write_trace.Given as goal

abbrev pub invariant-loop-at : goal.invariant-loop-at
invariant-loop-at l =
    (l.at ≤ l.d) × (length l.trace ≡ length l.initial.trace)
    × (trail (parent_at (columns l.k) l.work) (mask_at (columns l.k) l.work) l.d l.i ++ drop l.d l.initial.trace ≡ trail (parent_at (columns l.k) l.work) (mask_at (columns l.k) l.work) l.at l.j ++ drop l.at l.trace)
    × ((n : ℕ) → ((q : ℕ) → q < n → parent_at (columns l.k) l.work q < n) → l.i < n → l.j < n)

abbrev pub decreases-loop-at : goal.decreases-loop-at
decreases-loop-at l = l.at
