use Rattle.tasks.proofs.Stores.{Storing, storing_start, storing_step, storing_room, storing_end}
use Rattle.tasks.proofs.Sheets.{tasks_bytes_lem, tasks_none}
use Rattle.tasks.specs.Sheet.{task_bytes, tasks_bytes}
use mathlib.Core.List.{◌++◌}
use mathlib.Core.Path.{◌≡◌}
use Prim.Native.Nat.{◌+◌, ◌-◌, ◌<◌, ◌≤◌}
use native.Mathlib.Omega.{arith}
use Rattle.tasks.proofs.writer.put_tasks.Goals as goal

pub loop-i-init : goal.loop-i-init
loop-i-init c =
    let a = c.args in
    let e : a.t.n ≡ a.t.n - 0 = omega arith in
    rw (← e) (storing_start a.out.now a.from (tasks_bytes a.t a.t.n 0) c.requires.1)

pub put_task-at-requires : goal.put_task-at-requires
put_task-at-requires c =
    let t = c.args.t in
    let i = c.loop-i.i in
    let h : i < t.n = omega arith in
    let s : Storing c.args.out.now c.args.from (tasks_bytes t t.n 0) c.loop-i.out c.loop-i.at (task_bytes t i ++ tasks_bytes t (t.n - (i + 1)) (i + 1)) = rw (tasks_bytes_lem t t.n i h) at c.loop-i.invariant in
    (omega arith, storing_room (task_bytes t i) (tasks_bytes t (t.n - (i + 1)) (i + 1)) s)

pub loop-i-preserved : goal.loop-i-preserved
loop-i-preserved c =
    let t = c.args.t in
    let i = c.loop-i.i in
    let h : i < t.n = omega arith in
    let s : Storing c.args.out.now c.args.from (tasks_bytes t t.n 0) c.loop-i.out c.loop-i.at (task_bytes t i ++ tasks_bytes t (t.n - (i + 1)) (i + 1)) = rw (tasks_bytes_lem t t.n i h) at c.loop-i.invariant in
    storing_step (task_bytes t i) (tasks_bytes t (t.n - (i + 1)) (i + 1)) s c.put_task-at.ensures.1 c.put_task-at.ensures.0

pub shape_of-out : goal.shape_of-out
shape_of-out c = c.loop-i.invariant.len

pub returns : goal.returns
returns c =
    let t = c.args.t in
    let h : t.n ≤ c.loop-i.i = omega arith in
    storing_end (rw (tasks_none t t.n c.loop-i.i h) at c.loop-i.invariant)
