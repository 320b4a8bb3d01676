use mathlib.Core.Path.{ap, ap₂, ◌∙◌}
use Rattle.lists.specs.Lists.{eight}
use Rattle.tasks.specs.Ticker.{selected, lowered, ticked_by}
use Rattle.tasks.proofs.ticker.Ticker.after.Goals as goal

pub returns : goal.returns
unfolding ticked_by
returns c =
    let a = c.args in
    c.lowered.ensures
    ∙ ap₂ (λ p w. lowered p w a.self.m)
    (c.selected-places.ensures ∙ ap (λ n. eight (selected a.self.bits n a.state.place a.self.newplace)) c.from-m.ensures)
    (c.selected-words.ensures ∙ ap (λ n. eight (selected a.self.bits n a.state.word a.self.newword)) c.from-m.ensures)
