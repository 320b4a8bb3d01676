use mathlib.Core.Path.{ap, ◌∙◌}
use Rattle.session.specs.Session.{settled, mark_set}
use Rattle.session.proofs.marks.Session.set_mark.Goals as goal

pub returns : goal.returns
unfolding mark_set
returns c = c.settled.ensures ∙ ap (settled c.args.self) c.with_mark.ensures
