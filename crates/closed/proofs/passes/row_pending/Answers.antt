use Prim.Native.Nat.{ℕ}
use mathlib.Core.Path.{◌≡◌, refl, ap, ◌∙◌}
use mathlib.Core.Bool.{Bool, true, false, ◌&&◌}
use lib.Dec.{leb, ltb}
use Rattle.tasks.specs.State.{improper}
use Rattle.tasks.specs.Tick.{after}
use Rattle.tasks.specs.Masks.{free_mask}
use Rattle.tasks.specs.Words.{state_of}
use Rattle.tasks.proofs.InWords.{WordList}
use Rattle.tasks.proofs.Free.{ticks, frees}
use Rattle.states.proofs.MaskLaws.{walk_up}
use Rattle.states.specs.Bytes.{state_in}
use Rattle.closed.specs.Keeping.{landing}
use Rattle.closed.proofs.RowLaws.{Row, row_start, row_next, row_skipped, row_end}
use native.Mathlib.Omega.{arith}
use borrow.Author.Rules.{rules}
use Rattle.closed.proofs.passes.row_pending.Goals as goal

-- whether the masks are due, by the gap that was read
due_is :
    (low high top : ℕ) {gap read at : ℕ} (released : Bool) {b : Bool}
    → read ≡ gap → b ≡ (leb low at && ltb at high) → at ≡ landing top read released
    → b ≡ (leb low (landing top gap released) && ltb (landing top gap released) high)
due_is low high top released is e f = rw (e, f, is)

pub returns-then-not-kept-released : goal.returns-then-not-kept-released
returns-then-not-kept-released c = (
  omega arith,
  row_skipped c.args.ticking.table c.args.file.bytes.now c.args.split c.args.pass c.args.i
      (due_is c.args.pass.low c.args.pass.high c.args.split.top false c.gap_at-gap.ensures c.between-kept.ensures c.landing.ensures) (due_is c.args.pass.low c.args.pass.high c.args.split.top true c.gap_at-gap.ensures c.between-released.ensures c.landing-2.ensures) (c.if-not-kept-released.true) c.args.file.n c.args.pending.now c.args.count,
)

pub loop-mask-init : goal.loop-mask-init
loop-mask-init c =
    let start = c.masks_of-mask-items.ensures.start in
    let free = frees _ _ c.args.ticking.made c.free.ensures ∙ ap (free_mask _) c.words_in-v.ensures in
    rw c.into_iter-mask-iterator.ensures.into_iter_gives
    (start.0, tt, omega arith, refl, start.2 ∙ free, rw start.1 (row_start start.0.small _ _))

pub put_after-c-requires : goal.put_after-c-requires
put_after-c-requires c =
    let p = c.requires in
    let x = c.loop-mask.invariant in
    let step = (c.in-Some.ensures {u = tt}).steps in
    omega (arith, p.3, x.2, x.3, step.here, step.small)

pub loop-mask-preserved : goal.loop-mask-preserved
loop-mask-preserved c =
    let x = c.loop-mask.invariant in
    let next = c.in-Some.ensures {u = tt} in
    let step = next.steps in
    let up = walk_up x.0 step in
    let more = c.put_after-c.ensures in (
      next.goes.keeps,
      tt,
      omega (arith, more.0, x.2, up.1, step.here, step.small),
      more.1.grown.same ∙ x.3,
      step.free ∙ x.4,
      rw (step.free, step.next) (row_next x.0.small (rw step.here at x.5) step.small c.is_due-due.ensures c.args.file.fits more.1),
    )

pub shape_of-pending : goal.shape_of-pending
shape_of-pending c =
    c.loop-mask.invariant.3

pub returns : goal.returns
returns c =
    let a = c.args in
    let g = c.requires in
    let x = c.loop-mask.invariant in
    let end = c.in-None.ensures {u = tt} in
    let here : state_of c.words_in-v.result ≡ state_in a.file.bytes.now a.i = c.words_in-v.ensures in
    let words : WordList c.words_in-v.result = record { word = λ i h. search rules } in
    let row : Row a.ticking.table a.ticking.ticker a.file.bytes.now a.split a.pass a.i c.between-kept.result c.between-released.result c.prepare-state.result c.loop-mask.mask-iterator.free =
    record {
      keeps = due_is a.pass.low a.pass.high a.split.top false c.gap_at-gap.ensures c.between-kept.ensures c.landing.ensures;
      releases = due_is a.pass.low a.pass.high a.split.top true c.gap_at-gap.ensures c.between-released.ensures c.landing-2.ensures;
      ticks = λ q. ticks a.ticking.table _ a.ticking.made c.prepare-state.ensures g.0.valid (ap (improper a.ticking.table) here ∙ g.2) words q ∙ ap (λ u. after a.ticking.table u q) here;
      frees = x.4;
    } in
    (omega (arith, x.2, end.steps), row_end row g.0.is g.1 x.5 (omega (arith, end.steps)))
