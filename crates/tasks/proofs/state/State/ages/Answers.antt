use mathlib.Core.Path.{refl, ◌∙◌}
use Rattle.lists.proofs.Fill.{filled_start, filled_store, filled_end}
use Rattle.jobs.proofs.Signed.{back}
use native.Mathlib.Omega.{arith}
use Rattle.tasks.proofs.state.State.ages.Goals as goal

pub loop-i-init : goal.loop-i-init
loop-i-init c = filled_start refl

pub loop-i-preserved : goal.loop-i-preserved
loop-i-preserved c = filled_store c.loop-i.invariant (omega (arith, c.loop-i-test.true)) (back c.age.result c.age.type_inv ∙ c.age.ensures)

pub returns : goal.returns
returns c = filled_end c.loop-i.invariant (omega (arith, c.loop-i-test.false))
