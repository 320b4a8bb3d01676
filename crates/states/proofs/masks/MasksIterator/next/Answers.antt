-- The mask that it stood at is given, and the next is above it. Assumes nothing.
use Rattle.std.proofs.Common.{refl, ap, rules}
use Rattle.states.specs.Masks.{place, Stepped}
use Rattle.states.proofs.MaskLaws.{walk_up}
use Rattle.states.proofs.masks.MasksIterator.next.Goals as goal

pub returns-clause-goes : goal.returns-clause-goes
returns-clause-goes c =
    let step : Stepped _ _ _ = record { small = search rules; here = ap place c.in_ok-mask.was; free = refl; next = c.follow-self.ensures } in
    let up = walk_up c.requires step in
    record { on = λ _. (up.0, tt, up.1); keeps = up.0; rests = λ _. tt }
