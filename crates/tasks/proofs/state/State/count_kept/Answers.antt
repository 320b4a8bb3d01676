use Rattle.std.proofs.Common.{rules}
use Rattle.tasks.specs.State.{keeps}
use Rattle.tasks.proofs.state.State.count_kept.Goals as goal

pub returns : goal.returns
returns c = c.count_places.ensures (keeps c.args.t c.args.self) (λ i b h k. search rules)
