-- Three numbers, each stored where the one before ended. Assumes nothing.
use Rattle.tasks.proofs.Stores.{storing_start, storing_step, storing_room, storing_left, storing_last}
use Rattle.tasks.specs.Number.{number_bytes}
use lib.ListN.{get_or}
use mathlib.Core.List.{◌++◌}
use Rattle.tasks.specs.Sheet.{task_bytes}
use native.Mathlib.Omega.{arith}
use Rattle.tasks.proofs.writer.put_task.Goals as goal

pub put_number-a-requires : goal.put_number-a-requires
unfolding task_bytes
put_number-a-requires c =
    let C = number_bytes (get_or c.args.t.work c.args.i 0) in
    let D = number_bytes (get_or c.args.t.deadline c.args.i 0) in
    let P = number_bytes (get_or c.args.t.gap c.args.i 0) in
    let p = storing_start c.args.out.now c.args.at (C ++ (D ++ P)) c.requires.1 in
    storing_room C (D ++ P) p

pub put_number-b-requires : goal.put_number-b-requires
unfolding task_bytes
put_number-b-requires c =
    let C = number_bytes (get_or c.args.t.work c.args.i 0) in
    let D = number_bytes (get_or c.args.t.deadline c.args.i 0) in
    let P = number_bytes (get_or c.args.t.gap c.args.i 0) in
    let p = storing_start c.args.out.now c.args.at (C ++ (D ++ P)) c.requires.1 in
    let q = storing_step C (D ++ P) p c.put_number-a.ensures.1 c.put_number-a.ensures.0 in
    storing_room D P q

pub put_number-requires : goal.put_number-requires
unfolding task_bytes
put_number-requires c =
    let C = number_bytes (get_or c.args.t.work c.args.i 0) in
    let D = number_bytes (get_or c.args.t.deadline c.args.i 0) in
    let P = number_bytes (get_or c.args.t.gap c.args.i 0) in
    let p = storing_start c.args.out.now c.args.at (C ++ (D ++ P)) c.requires.1 in
    let q = storing_step C (D ++ P) p c.put_number-a.ensures.1 c.put_number-a.ensures.0 in
    let r = storing_step D P q c.put_number-b.ensures.1 c.put_number-b.ensures.0 in
    storing_left P r

pub returns : goal.returns
unfolding task_bytes
returns c =
    let C = number_bytes (get_or c.args.t.work c.args.i 0) in
    let D = number_bytes (get_or c.args.t.deadline c.args.i 0) in
    let P = number_bytes (get_or c.args.t.gap c.args.i 0) in
    let p = storing_start c.args.out.now c.args.at (C ++ (D ++ P)) c.requires.1 in
    let q = storing_step C (D ++ P) p c.put_number-a.ensures.1 c.put_number-a.ensures.0 in
    let r = storing_step D P q c.put_number-b.ensures.1 c.put_number-b.ensures.0 in
    (omega (arith, c.put_number.ensures.0, r.place), storing_last P r c.put_number.ensures.1)
