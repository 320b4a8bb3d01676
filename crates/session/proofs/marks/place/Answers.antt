use mathlib.Core.Path.{refl, sym, ap, ◌∙◌}
use Rattle.std.specs.Prelude.{Ok}
use Rattle.lists.proofs.Picks.{pick_yes, pick_no}
use Rattle.tasks.specs.declared.refusal.Refusal.TheVariants.{MarkNumber}
use Rattle.tasks.proofs.Refusals.{refused_at, unless_none}
use Rattle.session.specs.Session.{beyond}
use Rattle.session.proofs.marks.place.Goals as goal

pub returns-then-outside : goal.returns-then-outside
unfolding beyond
returns-then-outside c = refused_at MarkNumber _ (pick_yes 0 (sym c.outside.ensures ∙ c.if-outside.true))

pub returns : goal.returns
unfolding beyond
returns c = ap Ok c.from.ensures ∙ unless_none _ (pick_no 15 (sym c.outside.ensures ∙ c.if-outside.false) refl)
