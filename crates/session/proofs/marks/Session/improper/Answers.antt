use Rattle.session.specs.Session.{improper_session}
use Rattle.session.proofs.marks.Session.improper.Goals as goal

pub returns : goal.returns
unfolding improper_session
returns c = cc
