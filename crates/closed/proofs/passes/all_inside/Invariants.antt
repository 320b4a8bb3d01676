-- The invariant: the pairs of the bands passed lead to states of the file. Assumes nothing.
use Prim.Native.Nat.{◌*◌}
use mathlib.Core.Path.{◌≡◌}
use lib.ListN.{length}
use Rattle.closed.specs.Keeping.{Inside}
use Rattle.closed.proofs.InsideLaws.{BandsTo}
use Rattle.closed.proofs.passes.all_inside.Given as goal

abbrev pub invariant-loop-band : goal.invariant-loop-band
invariant-loop-band l = (length l.cells ≡ length l.initial.cells) × Inside l.ticking.table l.file.bytes.now (BandsTo l.ticking.table l.file.bytes.now l.split (l.band * l.step))
