use Rattle.cores.specs.Walk.{ready_count}
use Rattle.cores.proofs.RankLaws.{kept_ready}
use Rattle.cores.proofs.WalkLaws.{walk_full, walk_all}
use native.Mathlib.Omega.{arith}
use borrow.Author.Rules.{rules}
use Rattle.cores.proofs.walk.assign_quickly.Goals as goal

pub overflow_sub-waiting : goal.overflow_sub-waiting
unfolding ready_count
overflow_sub-waiting c = omega (arith, kept_ready c.args.places, c.assign_kept-start.ensures.1, c.count_below.ensures.0)

pub assign_rest-requires : goal.assign_rest-requires
unfolding ready_count
assign_rest-requires c =
    (omega (arith, kept_ready c.args.places, c.assign_kept-start.ensures.1, c.count_below.ensures.0), search rules)

pub returns-then-count-waiting : goal.returns-then-count-waiting
unfolding ready_count
returns-then-count-waiting c =
    let rest = c.assign_rest in
    walk_all _ _ rest.ensures.0 (omega (arith, kept_ready c.args.places, c.assign_kept-start.ensures.1, c.count_below.ensures.0, rest.ensures.1)) (omega (arith, rest.ensures.1))

pub loop-walk-init : goal.loop-walk-init
unfolding ready_count
loop-walk-init c = (
  c.assign_kept-start.ensures.0,
  omega (arith, kept_ready c.args.places, c.assign_kept-start.ensures.1, c.count_below.ensures.0, c.if-count-waiting.false),
  c.ranks-ranks.ensures,
)

pub returns : goal.returns
returns c = walk_full _ _ c.loop-walk.invariant.0 (omega (arith, c.loop-walk-test.false))
