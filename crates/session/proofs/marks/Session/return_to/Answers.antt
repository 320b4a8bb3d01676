use mathlib.Core.Path.{ap, ◌∙◌}
use Rattle.session.specs.Session.{settled, returned}
use Rattle.session.proofs.marks.Session.return_to.Goals as goal

pub returns : goal.returns
unfolding returned
returns c = c.settled.ensures ∙ ap (settled c.args.self) c.at_mark.ensures
