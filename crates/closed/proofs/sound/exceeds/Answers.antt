-- The three counts. Assumes nothing.
use Rattle.tasks.specs.Words.{state_of}
use Rattle.closed.proofs.SoundLaws.{exceeds_work, exceeds_gap, exceeds_kept}
use Rattle.closed.proofs.sound.exceeds.Goals as goal

pub returns-then-count_work_above-gt0 : goal.returns-then-count_work_above-gt0
returns-then-count_work_above-gt0 c =
    let a = c.args in
    exceeds_work a.t (state_of a.v) c.count_work_above.ensures c.if-count_work_above-gt0.true

pub returns-then-count_gap_above-gt0 : goal.returns-then-count_gap_above-gt0
returns-then-count_gap_above-gt0 c =
    let a = c.args in
    exceeds_gap a.t (state_of a.v) c.count_gap_above.ensures c.if-count_gap_above-gt0.true

pub returns : goal.returns
returns c =
    let a = c.args in
    rw c.keeps_running.ensures
    (exceeds_kept a.t (state_of a.v) c.count_work_above.ensures c.if-count_work_above-gt0.false c.count_gap_above.ensures c.if-count_gap_above-gt0.false c.count_started.ensures)
