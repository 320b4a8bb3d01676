use Rattle.cores.proofs.RankLaws.{rank_start}
use Rattle.cores.proofs.walk.ranks.Goals as goal

pub loop-i-init : goal.loop-i-init
loop-i-init c = rank_start _
