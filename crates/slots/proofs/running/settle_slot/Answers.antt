-- The writer's part is given back to the whole. Assumes nothing.
use Prim.Native.Nat.{◌+◌, ◌*◌, ◌/◌}
use Rattle.slots.specs.Layout.{four_bytes}
use Rattle.slots.proofs.Bytes.{lent_sets, four_length}
use native.Mathlib.Omega.{arith}
use Rattle.slots.proofs.running.settle_slot.Goals as goal

pub returns : goal.returns
returns c =
    let a = c.args in
    let word = c.parent_of in
    let parent = 4096 * a.b + word.result / 1048576 in
    let size = four_length parent in
    rw (← word.ensures) (lent_sets a.work.now (16 * a.k + 4 * a.i) (four_bytes parent) _ c.put_parent.ensures (omega arith))
