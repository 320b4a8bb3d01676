use Prim.Native.Nat.{◌+◌}
use mathlib.Core.List.{[]}
use lib.ListN.{get_or, drop}
use Rattle.tasks.proofs.Stores.{storing_step, storing_room, storing_end}
use Rattle.lines.specs.Lines.{line, mask_lines}
use Rattle.lines.proofs.LineLaws.{masks_turn, masks_end}
use native.Mathlib.Omega.{arith}
use Rattle.lines.proofs.text.put_masks.Goals as goal

pub put_line-at-requires : goal.put_line-at-requires
put_line-at-requires c =
    let l = c.loop-mask in
    let p = rw (masks_turn c.args.masks.now l.mask-index (omega arith)) at l.invariant in
    rw c.from.ensures (storing_room (line [] (get_or c.args.masks.now l.mask-index 0)) (mask_lines (drop (l.mask-index + 1) c.args.masks.now)) p)

pub loop-mask-preserved : goal.loop-mask-preserved
loop-mask-preserved c =
    let l = c.loop-mask in
    let p = rw (masks_turn c.args.masks.now l.mask-index (omega arith)) at l.invariant in
    let w = rw c.from.ensures at c.put_line-at.ensures in
    storing_step (line [] (get_or c.args.masks.now l.mask-index 0)) (mask_lines (drop (l.mask-index + 1) c.args.masks.now)) p w.1 w.0

pub returns : goal.returns
returns c =
    let l = c.loop-mask in
    let p = rw (masks_end c.args.masks.now l.mask-index (omega arith)) at l.invariant in
    (omega (arith, p.place), storing_end p)
