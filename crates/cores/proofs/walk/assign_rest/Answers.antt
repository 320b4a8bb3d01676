use mathlib.Core.Path.{refl}
use Rattle.cores.proofs.WalkLaws.{walk_rest}
use Rattle.cores.proofs.walk.assign_rest.Goals as goal

pub returns : goal.returns
returns c =
    (walk_rest _ _ c.below.ensures c.requires.0 c.requires.1, refl)
