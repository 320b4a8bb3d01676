-- By definition. Assumes nothing.
use Rattle.states.specs.Keys.{same_keys}
use Rattle.states.proofs.keys.same_keys.Goals as goal

pub returns : goal.returns
unfolding same_keys
returns c = c.eq.ensures
