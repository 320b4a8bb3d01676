use mathlib.Core.Path.{refl, ap, ◌∙◌}
use Rattle.tasks.specs.State.{improper}
use Rattle.tasks.specs.Tick.{after}
use Rattle.tasks.specs.Masks.{free_mask}
use Rattle.tasks.proofs.InWords.{WordList}
use Rattle.tasks.proofs.Free.{ticks, frees}
use Rattle.search.proofs.StoreLaws.{row_start, row_stored, row_crowded, row_end}
use native.Mathlib.Omega.{arith}
use borrow.Author.Rules.{rules}
use Rattle.search.proofs.store.store_row.Goals as goal

pub words_in-v-requires : goal.words_in-v-requires
words_in-v-requires c =
    let r = c.requires in
    let f = r.indexed.fits in
    let g = r.indexed.room in
    let h = r.below in
    omega arith

pub loop-mask-init : goal.loop-mask-init
loop-mask-init c =
    let at = c.words_in-v.ensures in
    let start = c.masks_of-mask-items.ensures.start in
    let words : WordList c.words_in-v.result = record { word = λ i h. search rules } in
    rw c.into_iter-mask-iterator.ensures.into_iter_gives (
      start.0,
      tt,
      refl,
      λ t e ready. record {
        is = start.2 ∙ frees t _ e c.free.ensures ∙ ap (free_mask t) at;
        ticks = λ mask. ticks t _ e c.prepare-state.ensures ready.valid (ap (improper t) at ∙ ready.proper) words mask ∙ ap (λ s. after t s mask) at;
        row = rw start.1 (row_start ready refl start.0.small);
      },
    )

pub try_mask-requires : goal.try_mask-requires
try_mask-requires c = (c.loop-mask.invariant.3 c.args.ticking.table c.args.ticking.made c.requires).row.indexed

pub returns-in_err-n : goal.returns-in_err-n
returns-in_err-n c =
    let x = c.loop-mask.invariant.3 c.args.ticking.table c.args.ticking.made c.requires in
    let step = (c.in-Some.ensures {u = tt}).steps in
    let y = rw (x.ticks _) at c.in_err-n.ensures in
    rw c.from_residual.ensures (row_crowded c.requires (rw step.here at x.row) x.is step.small y)

pub loop-mask-preserved : goal.loop-mask-preserved
loop-mask-preserved c =
    let next = c.in-Some.ensures {u = tt} in
    let step = next.steps in (
      next.goes.keeps,
      tt,
      c.try_mask.auto.heads ∙ c.loop-mask.invariant.2,
      λ t e ready.
          let x = c.loop-mask.invariant.3 t e ready in
          let y = rw (x.ticks _) at c.in_ok-n.ensures in
          record { is = step.free ∙ x.is; ticks = x.ticks; row = rw (step.free, step.next) (row_stored ready (rw step.here at x.row) x.is step.small y) },
    )

pub shape_of-heads : goal.shape_of-heads
shape_of-heads c = c.loop-mask.invariant.2

pub returns : goal.returns
returns c =
    let x = c.loop-mask.invariant.3 c.args.ticking.table c.args.ticking.made c.requires in
    let end = c.in-None.ensures {u = tt} in
    row_end c.requires x.row x.is (omega (arith, end.steps))
