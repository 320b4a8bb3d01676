use Rattle.tasks.specs.State.{late}
use Rattle.tasks.proofs.state.State.late.Goals as goal

pub returns : goal.returns
unfolding late
returns c = c.late_job.ensures
