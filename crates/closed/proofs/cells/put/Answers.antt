-- An empty cell that the walk found is below the number of cells. Assumes nothing.
use native.Mathlib.Omega.{arith}
use borrow.Author.Rules.{rules}
use Rattle.closed.proofs.cells.put.Goals as goal

pub offset_bounds-cells-at : goal.offset_bounds-cells-at
offset_bounds-cells-at c =
    let h = rw c.in-Empty.is at c.probe.ensures in
    omega (arith, h)

pub bounds-cells-at : goal.bounds-cells-at
bounds-cells-at c =
    let h = rw c.in-Empty.is at c.probe.ensures in
    search (rules, h)
