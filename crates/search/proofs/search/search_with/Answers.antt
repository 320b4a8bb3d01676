-- Heads that are all 0 index no slot. Assumes nothing.
use mathlib.Core.Path.{refl}
use Rattle.search.proofs.ClaimLaws.{lent_fresh, finishing}
use Rattle.search.proofs.search.search_with.Goals as goal

pub search_levels-end-requires : goal.search_levels-end-requires
search_levels-end-requires g c = lent_fresh c.requires.lent refl c.requires.heads.0 refl

pub finish-requires : goal.finish-requires
finish-requires g c =
    let levels = c.search_levels-end in
    finishing c.requires.lent levels.auto.ends levels.auto.work levels.ensures

pub returns : goal.returns
returns g c =
    let levels = c.search_levels-end in
    c.finish.ensures.found c.args.t c.args.work.now c.requires.lent.valid levels.auto.work levels.ensures
