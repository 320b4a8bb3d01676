use mathlib.Core.Path.{◌≡◌}
use mathlib.Core.Bool.{false}
use lib.ListN.{drop}
use Rattle.tasks.specs.State.{improper}
use Rattle.tasks.specs.Replay.{played}
use Rattle.tasks.proofs.play.play.Given as goal

abbrev pub invariant-loop-i : goal.invariant-loop-i
invariant-loop-i l = (improper l.t l.s ≡ false) × (played l.t l.initial.s 0 l.masks ≡ played l.t l.s l.i (drop l.i l.masks))
