use native.Mathlib.Omega.{arith}
use mathlib.Core.Path.{ap}
use lib.ListN.{length}
use Rattle.tasks.proofs.Groups.{bytes_low, bytes_two}
use Rattle.tasks.proofs.number.number_len.Goals as goal

pub returns-then-x-lt128 : goal.returns-then-x-lt128
returns-then-x-lt128 c = (omega (arith, ap length (bytes_low c.args.x c.if-x-lt128.true)), omega arith)

pub returns-else-x-lt128 : goal.returns-else-x-lt128
returns-else-x-lt128 c = (omega (arith, ap length (bytes_two c.args.x (omega arith) (omega arith))), omega arith)
