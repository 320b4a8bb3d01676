use Prim.Native.Nat.{◌+◌}
use mathlib.Core.Path.{◌≡◌, sym, ap, ◌∙◌}
use lib.ListN.{length, get_or, drop}
use borrow.Author.Tests.{lt-leb, le-leb}
use Rattle.lines.specs.Lines.{decimal, mask_lines}
use Rattle.lines.proofs.LineLaws.{masks_end, masks_longer}
use native.Mathlib.Omega.{arith}
use Rattle.lines.proofs.text.masks_fit.Goals as goal

pub returns-then-left-n : goal.returns-then-left-n
returns-then-left-n c =
    let l = c.loop-mask in
    let small = c.if-left-n.true in
    let turn = (let it : length (mask_lines (drop c.loop-mask.mask-index c.args.masks.now))
    ≡ c.decimal_len-n.result + 1 + length (mask_lines (drop (c.loop-mask.mask-index + 1) c.args.masks.now)) = let masks = c.args.masks.now in
    let i = c.loop-mask.mask-index in
    let d : c.decimal_len-n.result ≡ length (decimal (get_or masks i 0)) = c.decimal_len-n.ensures.0 ∙ ap (λ x. length (decimal x)) c.from.ensures in
    masks_longer masks i (omega arith) ∙ ap (λ n. n + 1 + length (mask_lines (drop (i + 1) masks))) (sym d) in it) in
    sym (lt-leb (length (mask_lines c.args.masks.now)) c.args.room (omega (arith, l.invariant)))

pub loop-mask-preserved : goal.loop-mask-preserved
loop-mask-preserved c =
    let l = c.loop-mask in
    let room = c.if-left-n.false in
    let turn = (let it : length (mask_lines (drop c.loop-mask.mask-index c.args.masks.now))
    ≡ c.decimal_len-n.result + 1 + length (mask_lines (drop (c.loop-mask.mask-index + 1) c.args.masks.now)) = let masks = c.args.masks.now in
    let i = c.loop-mask.mask-index in
    let d : c.decimal_len-n.result ≡ length (decimal (get_or masks i 0)) = c.decimal_len-n.ensures.0 ∙ ap (λ x. length (decimal x)) c.from.ensures in
    masks_longer masks i (omega arith) ∙ ap (λ n. n + 1 + length (mask_lines (drop (i + 1) masks))) (sym d) in it) in
    omega (arith, l.invariant)

pub returns : goal.returns
returns c =
    let l = c.loop-mask in
    let masks = c.args.masks.now in
    let e : length (mask_lines (drop l.mask-index masks)) ≡ 0 = ap length (masks_end masks l.mask-index (omega arith)) in
    sym (le-leb (length (mask_lines masks)) c.args.room (omega (arith, l.invariant)))
