-- By what the four bytes are. Assumes nothing.
use Rattle.states.specs.Bytes.{four_at}
use Rattle.std.proofs.Common.{rules}
use Rattle.states.proofs.column.four_at.Goals as goal

pub returns : goal.returns
unfolding four_at
returns c =
    search rules
