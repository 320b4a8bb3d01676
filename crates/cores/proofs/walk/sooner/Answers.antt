use Rattle.cores.proofs.RankLaws.{sooner_once}
use Rattle.cores.proofs.walk.sooner.Goals as goal

pub returns : goal.returns
returns c =
    let a = c.args in
    rw (c.from.ensures, c.above.ensures, c.above-2.ensures) (sooner_once a.y a.k a.x a.i)
