-- The invariant: the slots up to i have their parents. Assumes nothing.
use Prim.Native.Nat.{ℕ, ◌<◌, ◌≤◌}
use mathlib.Core.Path.{◌≡◌}
use mathlib.Core.List.{List}
use lib.ListN.{length, get_or}
use Rattle.slots.specs.Running.{block_of, Settling}
use Rattle.slots.proofs.running.settle_block.Given as goal

abbrev pub invariant-loop-i : goal.invariant-loop-i
invariant-loop-i l =
    ((m : ℕ) → l.from ≤ m → l.to ≤ m → l.i ≤ m) × (length l.work ≡ length l.initial.work)
    × ((ends w₀ : List ℕ) → ((j : ℕ) → get_or w₀ j 0 < 256) → ((j : ℕ) → l.from ≤ j → j < l.to → block_of ends j ≡ l.b) → Settling l.k ends w₀ l.initial.work l.from → Settling l.k ends w₀ l.work l.i)
