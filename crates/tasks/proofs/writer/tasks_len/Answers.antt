use Rattle.tasks.proofs.Sheets.{tasks_length, tasks_no_length}
use Rattle.tasks.specs.Sheet.{tasks_bytes}
use lib.ListN.{length}
use mathlib.Core.Path.{◌≡◌, ap, ◌∙◌}
use Prim.Native.Nat.{◌-◌, ◌<◌, ◌≤◌}
use native.Mathlib.Omega.{arith}
use Rattle.tasks.proofs.writer.tasks_len.Goals as goal

pub loop-i-init : goal.loop-i-init
loop-i-init c =
    let t = c.args.t in
    let e : t.n ≡ t.n - 0 = omega arith in
    (omega arith, ap (λ k. length (tasks_bytes t k 0)) e ∙ omega arith)

pub overflow_add-total : goal.overflow_add-total
overflow_add-total c = omega arith

pub loop-i-preserved : goal.loop-i-preserved
loop-i-preserved c =
    let t = c.args.t in
    let h : c.loop-i.i < t.n = omega arith in
    (omega arith, omega (arith, tasks_length t t.n c.loop-i.i h, c.loop-i.invariant.1, c.task_len-total.ensures.0))

pub returns : goal.returns
returns c =
    let t = c.args.t in
    let h : t.n ≤ c.loop-i.i = omega arith in
    (omega (arith, tasks_no_length t t.n c.loop-i.i h, c.loop-i.invariant.1), omega arith)
