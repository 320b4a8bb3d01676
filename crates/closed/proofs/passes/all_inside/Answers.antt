use Prim.Native.Nat.{◌+◌, ◌/◌}
use mathlib.Core.Path.{◌≡◌}
use native.Mathlib.Omega.{arith}
use Rattle.std.proofs.Math.Nat.{lt-div-mul-add}
use Rattle.closed.proofs.InsideLaws.{bands_end}
use Rattle.closed.proofs.passes.all_inside.Goals as goal

pub returns : goal.returns
returns c =
    let a = c.args in
    let all : c.loop-band.band ≡ a.split.top / c.width-step.result + 1 = omega (arith, c.loop-band-test.false, c.loop-band.auto.band-end) in
    let last = lt-div-mul-add {a = a.split.top} {b = c.width-step.result} c.width-step.ensures.0 in
    bands_end a.ticking.table a.file.bytes.now a.split c.loop-band.invariant.1 (rw all (omega (arith, last)))
