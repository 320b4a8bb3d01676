use mathlib.Core.Path.{◌≡◌, refl, ◌∙◌}
use Prim.Native.Nat.{◌-◌}
use lib.ListN.{length-set}
use Rattle.search.proofs.ReportLaws.{trace_turn, trace_end}
use native.Mathlib.Omega.{arith}
use Rattle.search.proofs.outcome.write_trace.Goals as goal

pub bounds-trace-d : goal.bounds-trace-d
bounds-trace-d c =
    let h = c.requires.long in
    omega arith

pub loop-at-init : goal.loop-at-init
loop-at-init c = (omega arith, refl, refl, λ n low h. h)

pub mask_of-requires : goal.mask_of-requires
mask_of-requires c =
    let r = c.requires in
    let h = c.loop-at.invariant.3 r.n r.low r.below in
    let f = r.most in
    (omega arith, r.fits)

pub bounds-trace-at : goal.bounds-trace-at
bounds-trace-at c =
    let a = c.args in
    let r = c.requires in
    let h = r.long in
    omega (arith, length-set a.trace.now a.d a.m)

pub parent_of-j-requires : goal.parent_of-j-requires
parent_of-j-requires c =
    let r = c.requires in
    let h = c.loop-at.invariant.3 r.n r.low r.below in
    let f = r.most in
    (omega arith, r.fits)

pub loop-at-preserved : goal.loop-at-preserved
loop-at-preserved c =
    let a = c.args in
    let r = c.requires in
    let long = r.long in
    let h = c.loop-at in (
      omega arith,
      length-set h.trace (h.at - 1) c.mask_of.result ∙ h.invariant.1,
      rw (c.parent_of-j.ensures, c.mask_of.ensures)
          (trace_turn a.k a.work.now h.trace _ h.at h.j (omega arith) (omega (arith, length-set a.trace.now a.d a.m)) h.invariant.2),
      λ n low b. rw c.parent_of-j.ensures (low h.j (h.invariant.3 n low b)),
    )

pub shape_of-trace : goal.shape_of-trace
shape_of-trace c =
    let a = c.args in
    c.loop-at.invariant.1 ∙ length-set a.trace.now a.d a.m

pub returns : goal.returns
returns c =
    let a = c.args in
    let r = c.requires in
    let h = c.loop-at in
    let e : h.at ≡ 0 = omega arith in
    trace_end a.k a.work.now a.trace.now _ h.trace a.i a.d a.m h.j r.long refl (rw e at h.invariant.2)
