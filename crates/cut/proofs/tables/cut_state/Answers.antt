-- Number by number. Assumes nothing.
use Rattle.cut.specs.Cut.{cut_state}
use Rattle.cut.proofs.tables.cut_state.Goals as goal

pub returns : goal.returns
unfolding cut_state
returns c = λ x. record { c = c.first_of.ensures x; p = c.first_of-2.ensures x }
