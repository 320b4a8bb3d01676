use Rattle.std.proofs.Common.{rules}
use Rattle.tasks.specs.State.{improper_at}
use Rattle.tasks.proofs.state.State.any_improper.Goals as goal

pub returns : goal.returns
returns c = c.any_place.ensures (improper_at c.args.t c.args.self) (λ i b h k. search rules)
