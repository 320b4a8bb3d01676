use mathlib.Core.Path.{refl, ◌∙◌}
use Rattle.search.proofs.StoreLaws.{block_start, block_ready, block_row, block_full, block_end}
use Rattle.search.proofs.store.store_block.Goals as goal

pub loop-i-init : goal.loop-i-init
loop-i-init c = (refl, block_start c.requires)

pub store_row-requires : goal.store_row-requires
store_row-requires c = block_ready c.requires c.loop-i.invariant.1 c.loop-i-test.true

pub returns-in_err-n : goal.returns-in_err-n
returns-in_err-n c = rw c.from_residual.ensures (block_full c.requires c.loop-i.invariant.1 c.loop-i-test.true c.in_err-n.ensures)

pub loop-i-preserved : goal.loop-i-preserved
loop-i-preserved c = (c.store_row.auto.heads ∙ c.loop-i.invariant.0, block_row c.requires c.loop-i.invariant.1 c.loop-i-test.true c.in_ok-n.ensures)

pub shape_of-work : goal.shape_of-work
shape_of-work c = c.loop-i.invariant.1.kept.len

pub shape_of-heads : goal.shape_of-heads
shape_of-heads c = c.loop-i.invariant.0

pub returns : goal.returns
returns c = block_end c.requires c.loop-i.invariant.1 c.loop-i-test.false
