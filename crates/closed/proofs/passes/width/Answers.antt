-- A share of at most the whole. Assumes nothing.
use Prim.Native.Nat.{◌+◌, ◌*◌}
use native.Mathlib.Nat.{div-le_self}
use native.Mathlib.Omega.{arith}
use Rattle.closed.proofs.passes.width.Goals as goal

pub returns-then-share-gt0 : goal.returns-then-share-gt0
returns-then-share-gt0 c =
    let a = c.args in
    (c.if-share-gt0.true, omega (arith, div-le_self ((a.top + 1) * 196608) a.n, c.requires))
