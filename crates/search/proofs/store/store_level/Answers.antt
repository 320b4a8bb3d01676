use mathlib.Core.Path.{refl, ◌∙◌}
use Rattle.search.proofs.StoreLaws.{level_start, level_low, level_ready, level_block, level_full, level_end}
use native.Mathlib.Omega.{arith}
use Rattle.search.proofs.store.store_level.Goals as goal

pub loop-i-init : goal.loop-i-init
loop-i-init c =
    let r = c.requires in
    (omega arith, refl, refl, level_start r.0 r.2 r.3)

pub block_upto-to-requires : goal.block_upto-to-requires
block_upto-to-requires c = (c.loop-i-test.true, level_low c.loop-i.invariant.3)

pub store_block-requires : goal.store_block-requires
store_block-requires c =
    let r = c.requires in
    let to = c.block_upto-to.ensures in
    level_ready c.loop-i.invariant.3 to.0 to.1 to.2 r.1

pub returns-in_err-n : goal.returns-in_err-n
returns-in_err-n c =
    let to = c.block_upto-to.ensures in
    rw c.from_residual.ensures (level_full c.loop-i.invariant.3 to.0 to.1 to.2 c.in_err-n.ensures)

pub overflow_sub-to : goal.overflow_sub-to
overflow_sub-to c = let to = c.block_upto-to.ensures in omega (arith, to.0)

pub end_slot-requires : goal.end_slot-requires
end_slot-requires c =
    let y = c.in_ok-n.ensures {u = tt} in
    let x = c.loop-i.invariant.3 in
    let to = c.block_upto-to.ensures in
    let low = level_low x in
    let room = y.indexed.room in
    let few = y.indexed.few in
    (omega (arith, to.0, to.1, x.marked.len), omega arith)

pub loop-i-smaller : goal.loop-i-smaller
loop-i-smaller c = let to = c.block_upto-to.ensures in omega (arith, to.0, to.1)

pub loop-i-preserved : goal.loop-i-preserved
loop-i-preserved c =
    let l = c.loop-i in
    let to = c.block_upto-to.ensures in
    let end = c.end_slot in (
      to.1,
      c.store_block.auto.heads ∙ l.invariant.1,
      end.auto.ends ∙ l.invariant.2,
      rw end.ensures (level_block l.invariant.3 to.0 to.1 to.2 c.in_ok-n.ensures),
    )

pub shape_of-work : goal.shape_of-work
shape_of-work c = c.loop-i.invariant.3.kept.len

pub shape_of-heads : goal.shape_of-heads
shape_of-heads c = c.loop-i.invariant.1

pub shape_of-ends : goal.shape_of-ends
shape_of-ends c = c.loop-i.invariant.2

pub returns : goal.returns
returns c = level_end c.loop-i.invariant.3 c.loop-i-test.false
