-- Each writer's part is given back to the whole, one after the other. Assumes nothing.
use Prim.Native.Nat.{◌+◌, ◌*◌}
use mathlib.Core.List.{[], ◌∷◌}
use Rattle.tasks.specs.Words.{state_of}
use Rattle.states.specs.Bytes.{state_bytes}
use Rattle.slots.specs.Layout.{four_bytes, write_part}
use Rattle.slots.proofs.Bytes.{lent_three, state_length, four_length}
use native.Mathlib.Omega.{arith}
use Rattle.slots.proofs.write.put_slot.Goals as goal

pub returns : goal.returns
unfolding write_part
returns c =
    let a = c.args in
    let size = state_length (state_of a.v) in
    let four = four_length a.parent in
    lent_three a.work.now (16 * a.i) (16 * a.k + 4 * a.i) (20 * a.k + a.i) (state_bytes (state_of a.v)) (four_bytes a.parent) (a.mask ∷ [])
    c.put_state.ensures c.put_parent.ensures c.put_mask.ensures (omega arith) (omega arith) (omega arith)
