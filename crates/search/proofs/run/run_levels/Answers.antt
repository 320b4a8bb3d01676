use mathlib.Core.Path.{refl, ◌∙◌}
use Rattle.tasks.specs.Words.{state_of}
use Rattle.search.proofs.RunLaws.{none_indexed, first_stands, stands_level, next_stands, ran_miss, ran_safe, ran_full}
use native.Mathlib.Omega.{arith}
use Rattle.search.proofs.run.run_levels.Goals as goal

pub push-requires : goal.push-requires
push-requires c = let fresh = c.requires in (none_indexed fresh, fresh.some)

pub loop-slot-init : goal.loop-slot-init
unfolding state_of
loop-slot-init c = (refl, refl, first_stands c.requires refl c.push.ensures)

pub hunt-requires : goal.hunt-requires
hunt-requires c =
    let stands = c.loop-slot.invariant.2 in
    let order = stands.standing.explored.order in
    (omega arith, stands_level c.requires stands)

pub returns-in-Some : goal.returns-in-Some
returns-in-Some c = record { is = ran_miss c.requires c.loop-slot.invariant.2 c.push.ensures.rest c.in-Some.ensures }

pub store_level-requires : goal.store_level-requires
store_level-requires c =
    let stands = c.loop-slot.invariant.2 in
    let order = stands.standing.explored.order in
    (omega arith, stands_level c.requires stands, stands.indexed, stands.marked)

pub returns-in_default-store_level : goal.returns-in_default-store_level
returns-in_default-store_level c =
    record { is = ran_full c.requires c.loop-slot.invariant.2 c.push.ensures.rest c.in_default.ensures c.in_default-store_level.ensures }

pub returns-then-n-hi : goal.returns-then-n-hi
returns-then-n-hi c =
    record { is = ran_safe c.requires c.loop-slot.invariant.2 c.push.ensures.rest c.in_default.ensures c.in-Some-store_level.ensures c.if-n-hi.true }

pub overflow_add-depth : goal.overflow_add-depth
overflow_add-depth c =
    let stands = c.loop-slot.invariant.2 in
    let a = stands.standing.deep in
    let b = stands.indexed.room in
    let e = stands.indexed.few in
    omega arith

pub loop-slot-smaller : goal.loop-slot-smaller
loop-slot-smaller c =
    let done = c.in-Some-store_level.ensures {u = tt} in
    let a = done.kept.order in
    let b = done.indexed.room in
    let ne = c.if-n-hi.false in
    omega arith

pub loop-slot-preserved : goal.loop-slot-preserved
loop-slot-preserved c =
    let store = c.store_level in (
      store.auto.heads ∙ c.loop-slot.invariant.0,
      store.auto.ends ∙ c.loop-slot.invariant.1,
      next_stands c.requires c.loop-slot.invariant.2 c.in_default.ensures c.in-Some-store_level.ensures c.if-n-hi.false,
    )
