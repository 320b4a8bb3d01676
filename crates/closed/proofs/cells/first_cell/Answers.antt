-- The cell is below the number of them less 256. Assumes nothing.
use Prim.Native.Nat.{◌+◌, ◌-◌, ◌/◌, ◌%◌}
use lib.Bits.{and_le_r}
use native.Mathlib.Omega.{arith}
use Rattle.closed.proofs.cells.first_cell.Goals as goal

pub returns : goal.returns
returns c =
    let x = c.mix-x.result in
    omega (arith, and_le_r (x / 4294967296 + x % 4294967296) (c.args.length - 257), c.requires)
