use mathlib.Core.Path.{sym, ◌∙◌}
use Rattle.tasks.specs.Ticker.{place_in}
use Rattle.tasks.proofs.ticker.place_in.Goals as goal

pub returns-then-keeps_in : goal.returns-then-keeps_in
unfolding place_in
returns-then-keeps_in c = rw (sym c.ready_in.ensures ∙ c.if-ready_in.true, sym c.keeps_in.ensures ∙ c.if-keeps_in.true)

pub returns-else-keeps_in : goal.returns-else-keeps_in
unfolding place_in
returns-else-keeps_in c = rw (sym c.ready_in.ensures ∙ c.if-ready_in.true, sym c.keeps_in.ensures ∙ c.if-keeps_in.false) c.moved-place.ensures

pub returns-else-ready_in : goal.returns-else-ready_in
unfolding place_in
returns-else-ready_in c = rw (sym c.ready_in.ensures ∙ c.if-ready_in.false)
