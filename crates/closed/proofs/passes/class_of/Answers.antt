-- One class, or the rest of a hash. Assumes nothing.
use mathlib.Core.Path.{ap}
use Prim.Native.Nat.{◌+◌, ◌/◌, ◌%◌}
use Rattle.closed.specs.Keeping.{class_of}
use Rattle.closed.proofs.PassLaws.{class_one}
use Rattle.closed.proofs.passes.class_of.Goals as goal

pub returns-then-classes-eq1 : goal.returns-then-classes-eq1
returns-then-classes-eq1 c =
    class_one c.args.key c.if-classes-eq1.true

pub returns : goal.returns
unfolding class_of
returns c =
    ap (λ x. (x / 4294967296 + x % 4294967296) / 262144 % c.args.classes) c.mix-x.ensures
