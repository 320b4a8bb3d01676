use Rattle.tasks.specs.Tight.{tight_job}
use Rattle.jobs.proofs.Signed.{back}
use Rattle.tasks.proofs.slack.tight_job.Goals as goal

pub returns : goal.returns
unfolding tight_job
returns c = rw (back c.slack_of.result c.slack_of.type_inv, c.slack_of.ensures)
