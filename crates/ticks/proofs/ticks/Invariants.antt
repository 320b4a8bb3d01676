use Rattle.std.proofs.Common.{◌≡◌}
use Rattle.ticks.specs.Ticks.{sum}
use Rattle.ticks.proofs.ticks.Given as goal

abbrev pub invariant-loop-k : goal.invariant-loop-k
invariant-loop-k l = l.sum ≡ sum l.t l.states l.masks l.k
