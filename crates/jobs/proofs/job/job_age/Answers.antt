use Rattle.std.proofs.Common.{le-ltb, lt-ltb}
use Rattle.jobs.specs.Job.{job_age}
use Rattle.jobs.proofs.Signed.{back}
use Rattle.jobs.proofs.job.job_age.Goals as goal

pub returns-then-policy-lt2 : goal.returns-then-policy-lt2
unfolding job_age
returns-then-policy-lt2 c = rw (lt-ltb c.args.policy 2 c.if-policy-lt2.true)

pub returns-else-policy-lt2 : goal.returns-else-policy-lt2
unfolding job_age
returns-else-policy-lt2 c = rw (le-ltb c.args.policy 2 c.if-policy-lt2.false, back c.age.result c.age.type_inv, c.age.ensures)
