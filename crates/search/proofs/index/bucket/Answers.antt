-- The bucket is below the number of buckets. Assumes nothing.
use Prim.Native.Nat.{◌+◌, ◌-◌, ◌/◌, ◌%◌}
use mathlib.Core.Path.{ap}
use lib.Bits.{bit_and, and_le_r}
use Rattle.search.specs.Indexed.{bucket_for}
use native.Mathlib.Omega.{arith}
use Rattle.search.proofs.index.bucket.Goals as goal

pub returns : goal.returns
unfolding bucket_for
returns c =
    let a = c.args in
    (ap (λ x. bit_and (x / 4294967296 + x % 4294967296) (a.size - 1)) c.mix-x.ensures, omega (arith, and_le_r (c.mix-x.result / 4294967296 + c.mix-x.result % 4294967296) (a.size - 1)))
