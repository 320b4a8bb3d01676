use mathlib.Core.Path.{refl, ◌∙◌}
use Rattle.std.proofs.Common.{arith}
use Rattle.lists.proofs.Fill.{filled_start, filled_store, filled_end}
use Rattle.tasks.specs.Places.{place}
use Rattle.tasks.proofs.Place.{earlier_listed}
use Rattle.tasks.proofs.state.State.places.Goals as goal

pub loop-i-init : goal.loop-i-init
loop-i-init c = (c.earlier-counts.ensures, filled_start refl)

pub place_of-requires : goal.place_of-requires
place_of-requires c =
    let h = c.loop-i in
    (earlier_listed _ _ h.invariant.0 h.i (omega (arith, c.loop-i-test.true))).1

pub loop-i-preserved : goal.loop-i-preserved
unfolding place
loop-i-preserved c =
    let h = c.loop-i in
    let is = (earlier_listed _ _ h.invariant.0 h.i (omega (arith, c.loop-i-test.true))).0 in
    (h.invariant.0, filled_store h.invariant.1 (omega (arith, c.loop-i-test.true)) (c.place_of.ensures ∙ rw (is, c.keeps.ensures)))

pub returns : goal.returns
returns c = filled_end c.loop-i.invariant.1 (omega (arith, c.loop-i-test.false))
