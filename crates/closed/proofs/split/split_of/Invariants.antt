-- The invariant: a task of the eight. Assumes nothing.
use Prim.Native.Nat.{◌<◌}
use Rattle.closed.proofs.split.split_of.Given as goal

abbrev pub invariant-loop-i : goal.invariant-loop-i
invariant-loop-i l = l.task < 8
