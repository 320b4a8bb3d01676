use Rattle.ticks.specs.Ticks.{word}
use Rattle.std.proofs.Common.{rules}
use Rattle.ticks.proofs.word.Goals as goal

pub returns : goal.returns
unfolding word
returns c = search rules
