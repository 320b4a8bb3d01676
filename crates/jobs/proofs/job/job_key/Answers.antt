use Rattle.std.proofs.Common.{le-ltb, lt-ltb}
use Rattle.jobs.specs.Job.{job_key}
use Rattle.jobs.proofs.Signed.{back}
use Rattle.jobs.proofs.job.job_key.Goals as goal

pub returns-then-policy-lt2 : goal.returns-then-policy-lt2
unfolding job_key
returns-then-policy-lt2 c = rw (lt-ltb c.args.policy 2 c.if-policy-lt2.true)

pub returns-then-policy-lt4 : goal.returns-then-policy-lt4
unfolding job_key
returns-then-policy-lt4 c =
    let a = c.args in
    rw (le-ltb a.policy 2 c.if-policy-lt2.false, lt-ltb a.policy 4 c.if-policy-lt4.true, back c.time_left.result c.time_left.type_inv, c.time_left.ensures)

pub returns : goal.returns
unfolding job_key
returns c =
    let a = c.args in
    rw (le-ltb a.policy 2 c.if-policy-lt2.false, le-ltb a.policy 4 c.if-policy-lt4.false, back c.slack_of.result c.slack_of.type_inv, c.slack_of.ensures)
