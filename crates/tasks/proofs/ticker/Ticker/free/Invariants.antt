-- The invariant: the mask is made of the first i tasks, and the bit is that of the next. Assumes nothing.
use Prim.Native.Nat.{◌^◌}
use mathlib.Core.Path.{◌≡◌}
use Rattle.lists.specs.Lists.{bits_of}
use Rattle.tasks.specs.Ticker.{releasable_in}
use Rattle.tasks.proofs.ticker.Ticker.free.Given as goal

abbrev pub invariant-loop-i : goal.invariant-loop-i
invariant-loop-i l = (l.bit ≡ 2 ^ l.i) × (l.mask ≡ bits_of l.i (releasable_in l.self l.v))
