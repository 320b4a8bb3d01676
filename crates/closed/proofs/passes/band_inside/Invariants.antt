-- The invariant: the pairs of the classes passed lead to states of the file. Assumes nothing.
use mathlib.Core.Path.{◌≡◌}
use lib.ListN.{length}
use Rattle.closed.specs.Keeping.{Inside}
use Rattle.closed.proofs.InsideLaws.{ClassesTo}
use Rattle.closed.proofs.passes.band_inside.Given as goal

abbrev pub invariant-loop-class : goal.invariant-loop-class
invariant-loop-class l = (length l.cells ≡ length l.initial.cells) × Inside l.ticking.table l.file.bytes.now (ClassesTo l.ticking.table l.file.bytes.now l.split l.low l.high l.classes l.class)
