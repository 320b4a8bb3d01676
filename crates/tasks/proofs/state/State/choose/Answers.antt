use mathlib.Core.Path.{refl, ◌∙◌}
use Rattle.lists.specs.Lists.{eight}
use Rattle.lists.proofs.Fill.{eight_same, filled_start, filled_store, filled_end}
use Rattle.cores.specs.Walk.{taken}
use Rattle.cores.proofs.WalkLaws.{served_test}
use Rattle.tasks.specs.Places.{place}
use Rattle.tasks.proofs.Place.{taken_chosen, places_placed}
use native.Mathlib.Omega.{arith}
use Rattle.tasks.proofs.state.State.choose.Goals as goal

pub loop-i-init : goal.loop-i-init
loop-i-init c = filled_start refl

pub loop-i-preserved : goal.loop-i-preserved
loop-i-preserved c = filled_store c.loop-i.invariant (omega (arith, c.loop-i-test.true)) refl

pub returns : goal.returns
returns c =
    let t = c.args.t in
    let s = c.args.self in
    let is = rw (c.from.ensures, c.places.ensures) at c.assign-given.ensures in
    filled_end c.loop-i.invariant (omega (arith, c.loop-i-test.false))
    ∙ eight_same _ (taken (eight (place t s)) t.m) (served_test (eight (place t s)) t.m is)
    ∙ taken_chosen t s (eight (place t s)) (places_placed t s)
