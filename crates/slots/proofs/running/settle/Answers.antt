use Prim.Native.Nat.{◌<◌}
use mathlib.Core.Path.{◌≡◌, ◌∙◌}
use native.Mathlib.Decide.{dec_lt}
use Rattle.slots.proofs.RunningLaws.{block_is, ended_more, ended_next, ended_low, settling_end}
use native.Mathlib.Omega.{arith}
use borrow.Author.Rules.{rules}
use Rattle.slots.proofs.running.settle.Goals as goal

pub loop-b-preserved : goal.loop-b-preserved
loop-b-preserved c =
    let ends = c.args.ends.now in
    let x = c.loop-b.invariant in
    let h : c.loop-b.from < c.args.n = omega (arith, x.0, c.if-from-n.false) in
    let ended = x.2 h in
    let to = c.min.ensures in
    let block = c.settle_block-from in
    let y = block.ensures in (
      y.most c.args.n x.0 (omega (arith, to)),
      block.auto.work ∙ x.1,
      λ more. ended_next (ended_more y.low ended) (omega (arith, y.upto, to, more)),
      y.carries ends c.args.work.now (λ j. search rules)
          (λ j from upto. block_is ends c.loop-b.b j c.loop-b-test.true (ended_more from ended) (omega (arith, to, upto)))
          x.3,
    )

pub returns-after-loop-b : goal.returns-after-loop-b
returns-after-loop-b c =
    let x = c.loop-b.invariant in
    let e : c.loop-b.from ≡ c.args.n =
    elim (dec_lt c.loop-b.from c.args.n) [
      | yes h ↦ let low = ended_low c.requires.3 (x.2 h) h in absurd (omega (arith, low, c.loop-b-test.false, c.requires.2))
      | no h ↦ omega (arith, x.0)
    ]
    in
    settling_end (rw e at x.3) c.requires.0

pub returns-then-from-n : goal.returns-then-from-n
returns-then-from-n c = settling_end (rw c.if-from-n.true at c.loop-b.invariant.3) c.requires.0
