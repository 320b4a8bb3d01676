use Prim.Native.Nat.{min}
use mathlib.Core.Path.{◌≡◌, ◌∙◌}
use native.Mathlib.Omega.{arith}
use Rattle.practice.proofs.DrawLaws.{few_entries, drawing_start, drawing_step, drawing_end}
use Rattle.practice.proofs.made.draw_table.Goals as goal

pub loop-i-init : goal.loop-i-init
loop-i-init c = rw c.empty-t.ensures drawing_start

pub loop-i-preserved : goal.loop-i-preserved
loop-i-preserved c =
    let l = c.loop-i in
    let task = c.task_of-task.ensures in
    rw c.with_task-t.ensures
    (drawing_step l.invariant
    (record {
      one = c.drawn-first.ensures;
      two = c.drawn-second.ensures;
      three = c.drawn-third.ensures;
      gap = task.0;
      deadline = task.1;
      work = task.2;
    })
    (omega arith))

pub returns : goal.returns
returns c = drawing_end c.loop-i.invariant (let e : c.loop-i.i ≡ min c.args.n 8 = omega arith in e ∙ few_entries c.args.n)
