use Rattle.std.proofs.Common.{rules}
use Rattle.tasks.specs.Tick.{illegal_at, illegal}
use Rattle.tasks.proofs.state.State.illegal.Goals as goal

pub returns : goal.returns
unfolding illegal
returns c = c.any_place.ensures (illegal_at c.args.t c.args.self c.args.mask) (λ i b h k. search rules)
