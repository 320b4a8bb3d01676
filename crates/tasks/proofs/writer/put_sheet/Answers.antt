-- Four numbers and the tasks, each stored where the one before ended. Assumes nothing.
use Rattle.tasks.specs.declared.table.Table.{Table}
use mathlib.Core.List.{List}
use Prim.Native.Nat.{ℕ}
use native.Mathlib.Nat.{zero-add}
use Rattle.tasks.proofs.Stores.{storing_start, storing_step, storing_room, storing_left, storing_last}
use Rattle.tasks.specs.Sheet.{tasks_bytes, sheet_bytes}
use Rattle.tasks.specs.Number.{number_bytes}
use mathlib.Core.List.{◌++◌}
use Rattle.tasks.proofs.writer.put_sheet.Goals as goal

-- the sheet from each number on
abbrev tasks_on : Table → List ℕ
tasks_on t = tasks_bytes t t.n 0

abbrev count_on : Table → List ℕ
count_on t = number_bytes t.n ++ tasks_on t

abbrev processors_on : Table → List ℕ
processors_on t = number_bytes t.m ++ count_on t

abbrev policy_on : Table → List ℕ
policy_on t = number_bytes t.policy ++ processors_on t

pub put_number-a-requires : goal.put_number-a-requires
unfolding sheet_bytes
put_number-a-requires c =
    let t = c.args.t in
    let p = storing_start c.args.out.now 0 (sheet_bytes t) (rw zero-add c.requires.1) in
    storing_room (number_bytes 3) (policy_on t) p

pub put_number-b-requires : goal.put_number-b-requires
unfolding sheet_bytes
put_number-b-requires c =
    let t = c.args.t in
    let p = storing_start c.args.out.now 0 (sheet_bytes t) (rw zero-add c.requires.1) in
    let q = storing_step (number_bytes 3) (policy_on t) p c.put_number-a.ensures.1 c.put_number-a.ensures.0 in
    storing_room (number_bytes t.policy) (processors_on t) q

pub put_number-c-requires : goal.put_number-c-requires
unfolding sheet_bytes
put_number-c-requires c =
    let t = c.args.t in
    let p = storing_start c.args.out.now 0 (sheet_bytes t) (rw zero-add c.requires.1) in
    let q = storing_step (number_bytes 3) (policy_on t) p c.put_number-a.ensures.1 c.put_number-a.ensures.0 in
    let r = storing_step (number_bytes t.policy) (processors_on t) q c.put_number-b.ensures.1 c.put_number-b.ensures.0 in
    storing_room (number_bytes t.m) (count_on t) r

pub put_number-d-requires : goal.put_number-d-requires
unfolding sheet_bytes
put_number-d-requires c =
    let t = c.args.t in
    let p = storing_start c.args.out.now 0 (sheet_bytes t) (rw zero-add c.requires.1) in
    let q = storing_step (number_bytes 3) (policy_on t) p c.put_number-a.ensures.1 c.put_number-a.ensures.0 in
    let r = storing_step (number_bytes t.policy) (processors_on t) q c.put_number-b.ensures.1 c.put_number-b.ensures.0 in
    let u = storing_step (number_bytes t.m) (count_on t) r c.put_number-c.ensures.1 c.put_number-c.ensures.0 in
    storing_room (number_bytes t.n) (tasks_on t) u

pub put_tasks-requires : goal.put_tasks-requires
unfolding sheet_bytes
put_tasks-requires c =
    let t = c.args.t in
    let p = storing_start c.args.out.now 0 (sheet_bytes t) (rw zero-add c.requires.1) in
    let q = storing_step (number_bytes 3) (policy_on t) p c.put_number-a.ensures.1 c.put_number-a.ensures.0 in
    let r = storing_step (number_bytes t.policy) (processors_on t) q c.put_number-b.ensures.1 c.put_number-b.ensures.0 in
    let u = storing_step (number_bytes t.m) (count_on t) r c.put_number-c.ensures.1 c.put_number-c.ensures.0 in
    let v = storing_step (number_bytes t.n) (tasks_on t) u c.put_number-d.ensures.1 c.put_number-d.ensures.0 in
    (c.requires.0, storing_left (tasks_on t) v)

pub returns : goal.returns
unfolding sheet_bytes
returns c =
    let t = c.args.t in
    let p = storing_start c.args.out.now 0 (sheet_bytes t) (rw zero-add c.requires.1) in
    let q = storing_step (number_bytes 3) (policy_on t) p c.put_number-a.ensures.1 c.put_number-a.ensures.0 in
    let r = storing_step (number_bytes t.policy) (processors_on t) q c.put_number-b.ensures.1 c.put_number-b.ensures.0 in
    let u = storing_step (number_bytes t.m) (count_on t) r c.put_number-c.ensures.1 c.put_number-c.ensures.0 in
    let v = storing_step (number_bytes t.n) (tasks_on t) u c.put_number-d.ensures.1 c.put_number-d.ensures.0 in
    storing_last (tasks_on t) v c.put_tasks.ensures
