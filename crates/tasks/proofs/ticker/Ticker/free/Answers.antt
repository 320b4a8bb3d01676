use Prim.Native.Nat.{suc, ◌+◌, ◌^◌}
use mathlib.Core.Path.{◌≡◌, refl, ap}
use lib.Pow.{pow_mono}
use native.Mathlib.Nat.{pow-suc}
use borrow.Author.Tests.{lt-ltb, le-ltb}
use Rattle.lists.proofs.Turns.{bits_none, bits_turn, bits_less, bits_end}
use Rattle.tasks.specs.Ticker.{releasable_in, free_by}
use native.Mathlib.Omega.{arith}
use Rattle.tasks.proofs.ticker.Ticker.free.Goals.{then-v-i, else-v-i}
use Rattle.tasks.proofs.ticker.Ticker.free.Goals as goal

pub loop-i-init : goal.loop-i-init
loop-i-init c = (refl, bits_none (releasable_in c.args.self c.args.v))

pub overflow_add-mask : goal.overflow_add-mask
overflow_add-mask c =
    let h = c.loop-i in
    let below = bits_less (releasable_in c.args.self c.args.v) h.i in
    let small = pow_mono {i = h.i} {j = 7} (omega (arith, c.loop-i-test.true)) in
    elim c.if-v-i.branch [
      | then-v-i w ↦ omega (arith, w.mask-is, h.invariant.0, h.invariant.1, below, small)
      | else-v-i w ↦ omega (arith, w.mask-is, h.invariant.1, below, small)
    ]

pub overflow_mul-bit : goal.overflow_mul-bit
overflow_mul-bit c =
    let h = c.loop-i in
    omega (arith, h.invariant.0, pow_mono {i = h.i} {j = 7} (omega (arith, c.loop-i-test.true)))

pub loop-i-preserved : goal.loop-i-preserved
unfolding releasable_in
loop-i-preserved c =
    let h = c.loop-i in
    let e : 2 ^ (h.i + 1) ≡ 2 ^ suc h.i = ap (λ k. 2 ^ k) (omega arith) in
    let turn = bits_turn (releasable_in c.args.self c.args.v) h.i h.invariant.1 h.invariant.0 in (
      omega (arith, e, h.invariant.0, pow-suc 2 h.i),
      elim c.if-v-i.branch [
        | then-v-i w ↦ rw w.mask-is (rw (lt-ltb _ _ w.if-v-i.true) at turn)
        | else-v-i w ↦ rw w.mask-is (rw (le-ltb _ _ w.if-v-i.false) at turn)
      ],
    )

pub overflow_cast-result : goal.overflow_cast-result
overflow_cast-result c =
    let h = c.loop-i in
    let p = releasable_in c.args.self c.args.v in
    omega (arith, bits_end p h.invariant.1 h.auto.i-end c.loop-i-test.false, bits_less p 8)

pub returns : goal.returns
unfolding free_by
returns c =
    let h = c.loop-i in
    bits_end (releasable_in c.args.self c.args.v) h.invariant.1 h.auto.i-end c.loop-i-test.false
