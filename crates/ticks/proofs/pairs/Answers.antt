use Rattle.std.proofs.Common.{◌∙◌}
use Rattle.ticks.specs.Ticks.{pairs}
use Rattle.ticks.proofs.Sums.{pick_min}
use Rattle.ticks.proofs.pairs.Goals as goal

pub returns : goal.returns
unfolding pairs
returns c = c.min.ensures ∙ pick_min _ _
