use Rattle.tasks.specs.Tick.{key}
use Rattle.jobs.proofs.Signed.{back}
use Rattle.tasks.proofs.state.State.key.Goals as goal

pub returns : goal.returns
unfolding key
returns c = rw (back c.job_key.result c.job_key.type_inv) c.job_key.ensures
