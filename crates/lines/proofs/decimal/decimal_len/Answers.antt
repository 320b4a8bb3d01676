use mathlib.Core.Path.{refl}
use Rattle.lines.proofs.Digits.{decimal_word, decimal_longer, decimal_single}
use native.Mathlib.Omega.{arith}
use Rattle.lines.proofs.decimal.decimal_len.Goals as goal

pub loop-rest-init : goal.loop-rest-init
loop-rest-init c = (refl, decimal_word c.args.x (omega arith))

pub loop-rest-preserved : goal.loop-rest-preserved
loop-rest-preserved c = (omega (arith, decimal_longer c.loop-rest.rest c.loop-rest-test.true), c.loop-rest.invariant.1)

pub returns : goal.returns
returns c = let one = decimal_single c.loop-rest.rest c.loop-rest-test.false in (omega arith, omega arith)
