use Prim.Native.Nat.{◌^◌}
use mathlib.Core.Path.{ap, ◌∙◌}
use mathlib.Core.Bool.{false}
use Rattle.lists.specs.Lists.{eight}
use Rattle.tasks.specs.Tick.{released, ran}
use Rattle.tasks.specs.Words.{words_of}
use Rattle.tasks.specs.Ticker.{ticker_of, places_in}
use Rattle.tasks.proofs.table.Table.ticker.Goals as goal

pub returns : goal.returns
unfolding ticker_of
returns c =
    let t = c.args.self in
    let fresh = c.release-fresh.ensures ∙ ap (λ s. released t s 255) c.start.ensures in
    let word = c.words-2.ensures ∙ ap words_of (c.run-idle.ensures ∙ ap (λ s. ran s (eight (λ i. false))) fresh) in
    let words = c.words.ensures ∙ ap words_of fresh in
    let place = c.places.ensures ∙ (λ j. places_in (eight (λ i. c.gap_mask-bygap.ensures j)) (eight (λ i. c.work_mask-bywork.ensures j)) (c.kept-kept.ensures j) (c.bases-base.ensures j) (words j)) in
    λ j.
    record {
      bits = eight (λ i. 2 ^ i);
      kept = c.kept-kept.ensures j;
      base = c.bases-base.ensures j;
      bygap = eight (λ i. c.gap_mask-bygap.ensures j);
      bywork = eight (λ i. c.work_mask-bywork.ensures j);
      newplace = place j;
      newword = word j;
      limit = c.limits.ensures j;
      m = c.from.ensures j;
    }
