use mathlib.Core.Path.{◌≡◌, sym, ap, ◌∙◌}
use Rattle.tasks.specs.State.{improper}
use Rattle.tasks.specs.Tick.{after, missed}
use Rattle.tasks.specs.Masks.{free_mask}
use Rattle.tasks.specs.Words.{state_of}
use Rattle.tasks.proofs.InWords.{WordList}
use Rattle.tasks.proofs.Free.{ticks, frees}
use Rattle.levels.specs.Levels.{Calm}
use Rattle.levels.proofs.Explore.{hunt_start}
use Rattle.states.specs.System.{system}
use Rattle.states.specs.Bytes.{state_in}
use Rattle.states.specs.Masks.{place}
use Rattle.states.proofs.MaskLaws.{walk_start, walk_next, walk_at}
use Rattle.states.proofs.MissLaws.{calm_by}
use Rattle.search.proofs.HuntLaws.{CalmTo, calm_end, hunt_turn, miss_from}
use native.Mathlib.Omega.{arith}
use borrow.Author.Rules.{rules}
use Rattle.search.proofs.hunt.hunt.Goals as goal
use Rattle.search.proofs.hunt.hunt.Goals.{then-has_miss+in-None, else-has_miss}

pub loop-i-init : goal.loop-i-init
loop-i-init c = hunt_start (system _)

pub loop-mask-init : goal.loop-mask-init
loop-mask-init c =
    let level = c.requires.1 in
    let start = c.masks_of-mask-items.ensures.start in
    let words : WordList c.words_in-v.result = record { word = λ i h. search rules } in
    rw c.into_iter-mask-iterator.ensures.into_iter_gives (
      start.0,
      tt,
      walk_start _ start.0 start.1,
      start.2 ∙ frees _ _ c.args.ticking.made c.free.ensures ∙ ap (free_mask _) c.words_in-v.ensures,
      λ mask. ticks _ _ c.args.ticking.made c.prepare-state.ensures level.valid (ap (improper _) c.words_in-v.ensures ∙ level.proper _ c.loop-i-test.true) words mask
          ∙ ap (λ u. after c.args.ticking.table u mask) c.words_in-v.ensures,
    )

pub loop-mask-preserved : goal.loop-mask-preserved
loop-mask-preserved c =
    let x = c.loop-mask.invariant in
    let next = c.in-Some.ensures {u = tt} in (
      next.goes.keeps,
      tt,
      walk_next x.0 next.steps _ x.2 (rw (c.after.ensures, x.4 _) at (sym c.misses.ensures ∙ c.if-misses.false)),
      next.steps.free ∙ x.3,
      x.4,
    )

pub loop-i-preserved : goal.loop-i-preserved
loop-i-preserved c =
    let h = c.loop-i in
    let level = c.requires.1 in
    let a = c.args in
    let s = state_in a.work.now h.i in
    let proper = level.proper h.i c.loop-i-test.true in
    let calm : Calm (system a.ticking.table) s =
    elim c.if-has_miss.branch [
      | then-has_miss+in-None w ↦
          let x = w.loop-mask.invariant in
          let e = w.in-None.ensures {u = tt} in
          let all : CalmTo a.ticking.table s (free_mask a.ticking.table s) (place w.loop-mask.mask-iterator.next) = rw (← x.3) x.2 in
          calm_end a.ticking.table level.valid s proper all (omega (arith, e.steps))
      | else-has_miss w ↦ calm_by a.ticking.table level.valid s proper c.words_in-v.ensures c.args.ticking.made (record { word = λ i h. search rules }) (sym c.has_miss.ensures ∙ w.if-has_miss.false)
    ] in
    hunt_turn a.ticking.table a.work.now h.invariant calm

pub returns-then-misses : goal.returns-then-misses
returns-then-misses c =
    let x = c.loop-mask.invariant in
    let next = c.in-Some.ensures {u = tt} in
    miss_from c.requires.1 (omega arith) c.loop-i-test.true next.steps.small
    (rw (← x.3) (walk_at x.0 next.steps))
    (ap (missed c.args.ticking.table) (sym (x.4 _)) ∙ ap (λ v. missed c.args.ticking.table (state_of v)) (sym c.after.ensures) ∙ sym c.misses.ensures ∙ c.if-misses.true)

pub returns-after-loop-i : goal.returns-after-loop-i
returns-after-loop-i c = let e : c.loop-i.i ≡ c.args.hi = omega (arith, c.requires.0, c.loop-i-test.false) in rw e at c.loop-i.invariant
