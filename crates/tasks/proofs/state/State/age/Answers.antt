use Rattle.tasks.specs.Tick.{age}
use Rattle.jobs.proofs.Signed.{back}
use Rattle.tasks.proofs.state.State.age.Goals as goal

pub returns : goal.returns
unfolding age
returns c = rw (back c.job_age.result c.job_age.type_inv) c.job_age.ensures
