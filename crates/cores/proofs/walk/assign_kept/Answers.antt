use Rattle.cores.proofs.WalkLaws.{walk_start}
use Rattle.cores.proofs.walk.assign_kept.Goals as goal

pub returns : goal.returns
returns c = walk_start _ _ c.below.ensures c.count_below.ensures.0
