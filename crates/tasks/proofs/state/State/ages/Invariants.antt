use lib.IntN.{pos}
use Rattle.lists.proofs.Fill.{Filled}
use Rattle.tasks.specs.Tick.{age}
use Rattle.tasks.proofs.state.State.ages.Given as goal

abbrev pub invariant-loop-i : goal.invariant-loop-i
invariant-loop-i l = Filled (pos 0) (age l.t l.self) l.ages l.i
