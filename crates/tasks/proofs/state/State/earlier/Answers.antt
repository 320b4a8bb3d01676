use mathlib.Core.Path.{◌∙◌}
use Rattle.tasks.proofs.Place.{earlier_lists}
use Rattle.tasks.proofs.state.State.earlier.Goals as goal

pub returns : goal.returns
returns c = rw (c.keys.ensures, c.ages.ensures) at c.count_earlier.ensures ∙ earlier_lists c.args.t c.args.self
