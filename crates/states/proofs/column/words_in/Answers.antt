use Rattle.states.specs.Bytes.{state_in}
use Rattle.states.proofs.column.words_in.Goals as goal

pub returns : goal.returns
unfolding state_in
returns c = c.words_from.ensures
