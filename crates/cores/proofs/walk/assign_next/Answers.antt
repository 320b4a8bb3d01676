use mathlib.Core.Path.{refl}
use Rattle.cores.proofs.WalkLaws.{walk_step}
use Rattle.cores.proofs.walk.assign_next.Goals as goal

pub returns : goal.returns
returns c =
    (walk_step _ _ c.requires.0 c.requires.1 c.requires.2 c.requires.3 c.with_rank.ensures, refl)
