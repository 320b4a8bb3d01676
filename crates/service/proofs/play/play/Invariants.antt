-- The invariant: what is known of a list on its way. Assumes nothing.
use Rattle.service.proofs.Playing.{Playing}
use Rattle.service.proofs.play.play.Given as goal

abbrev pub invariant-loop-i : goal.invariant-loop-i
invariant-loop-i l = Playing l.t l.masks l.s l.i l.releases l.ran
