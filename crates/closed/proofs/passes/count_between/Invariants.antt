-- The invariant: at most i states are counted. Assumes nothing.
use Prim.Native.Nat.{◌≤◌}
use Rattle.closed.proofs.passes.count_between.Given as goal

abbrev pub invariant-loop-i : goal.invariant-loop-i
invariant-loop-i l = l.count ≤ l.i
