use mathlib.Core.Path.{◌≡◌, refl, ◌∙◌}
use lib.Seq.{length-sets}
use Rattle.service.proofs.ByteLaws.{rows_none, rows_turn}
use native.Mathlib.Omega.{arith}
use Rattle.service.proofs.bytes.put_rows.Goals as goal

pub loop-i-init : goal.loop-i-init
loop-i-init c = (c.requires, refl, rows_none _ _)

pub loop-i-preserved : goal.loop-i-preserved
loop-i-preserved c =
    let l = c.loop-i in
    let e = c.put_row.ensures in
    (l.invariant.0, rw e (simp length-sets l.invariant.1), e ∙ rw l.invariant.2 (rows_turn _ _ _ (omega arith)))

pub shape_of-out : goal.shape_of-out
shape_of-out c = c.loop-i.invariant.1

pub returns : goal.returns
returns c =
    let l = c.loop-i in
    let e : l.i ≡ 8 = omega arith in
    rw e at l.invariant.2
