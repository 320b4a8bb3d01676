use Rattle.std.proofs.Common.{rules}
use Rattle.tasks.specs.State.{late}
use Rattle.tasks.specs.Tick.{missed}
use Rattle.tasks.proofs.state.State.missed.Goals as goal

pub returns : goal.returns
unfolding missed
returns c = c.any_place.ensures (late c.args.t c.args.self) (λ i b h k. search rules)
