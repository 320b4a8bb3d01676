use mathlib.Core.Path.{◌≡◌, sym, ◌∙◌}
use Rattle.slots.proofs.RunningLaws.{settling_next}
use native.Mathlib.Omega.{arith}
use Rattle.slots.proofs.running.settle_block.Goals as goal

pub loop-i-preserved : goal.loop-i-preserved
loop-i-preserved c =
    let l = c.loop-i in
    let r = c.requires in
    let h = c.loop-i-test.true in
    let slot = c.settle_slot in (
      λ m low upto. omega arith,
      slot.auto.work ∙ l.invariant.1,
      λ ends w₀ bytes same x.
          let y = l.invariant.2 ends w₀ bytes same x in
          rw slot.ensures (settling_next y (omega arith) (omega (arith, y.len, l.invariant.1)) (sym (same l.i (omega arith) h)) r.2 bytes),
    )

pub returns : goal.returns
returns c =
    let l = c.loop-i in
    record {
      low = omega (arith, c.max.ensures);
      upto = omega (arith, c.max.ensures);
      most = λ m low upto. omega (arith, c.max.ensures);
      carries = λ ends w₀ bytes same x.
          let e : c.max.result ≡ l.i = (let up = l.invariant.0 c.max.result (omega (arith, c.max.ensures)) (omega (arith, c.max.ensures)) in omega (arith, c.max.ensures)) in
          rw e (l.invariant.2 ends w₀ bytes same x);
    }
