use mathlib.Core.Path.{◌≡◌, refl, ◌∙◌}
use mathlib.Core.Bool.{true, false}
use Rattle.closed.proofs.InsideLaws.{classes_start, classes_next, classes_end}
use Rattle.closed.proofs.RowLaws.{ready_cells}
use native.Mathlib.Omega.{arith}
use Rattle.closed.proofs.passes.band_inside.Goals as goal

pub overflow_add-classes : goal.overflow_add-classes
overflow_add-classes c =
    omega (arith, c.count_between.type_inv)

pub loop-class-init : goal.loop-class-init
loop-class-init c =
    (refl, classes_start _ _ _ _ _ _)

pub rows_inside-requires : goal.rows_inside-requires
rows_inside-requires c =
    ready_cells c.requires (c.index_pass.ensures ∙ c.loop-class.invariant.0)

pub shape_of-cells-then-not-rows_inside : goal.shape_of-cells-then-not-rows_inside
shape_of-cells-then-not-rows_inside c =
    c.index_pass.ensures ∙ c.loop-class.invariant.0

pub returns-then-not-rows_inside : goal.returns-then-not-rows_inside
returns-then-not-rows_inside c =
    let none : c.rows_inside.result ≡ false = c.if-not-rows_inside.true in
    (c.index_pass.ensures ∙ c.loop-class.invariant.0, rw none at c.rows_inside.ensures)

pub loop-class-preserved : goal.loop-class-preserved
loop-class-preserved c =
    let a = c.args in
    let yes : c.rows_inside.result ≡ true = c.if-not-rows_inside.false in
    (c.index_pass.ensures ∙ c.loop-class.invariant.0, classes_next a.ticking.table a.file.bytes.now a.split a.low a.high _ c.loop-class.invariant.1 (rw yes at c.rows_inside.ensures))

pub shape_of-cells : goal.shape_of-cells
shape_of-cells c =
    c.loop-class.invariant.0

pub returns : goal.returns
returns c =
    let a = c.args in
    (c.loop-class.invariant.0, classes_end a.ticking.table a.file.bytes.now a.split a.low a.high _ c.loop-class.invariant.1 (omega arith) (omega arith))
