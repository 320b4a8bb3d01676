-- What `play_on` answers, raised. Assumes nothing.
use mathlib.Core.Path.{◌≡◌, ap, ◌∙◌}
use Rattle.tasks.specs.Replay.{replay_tick, outcome_tick}
use Rattle.tasks.specs.declared.play.ReplayAnswer.TheVariants.{Played, Refused}
use Rattle.joined.specs.Raised.{raised_answer}
use Rattle.joined.proofs.Theorems.{after_answer}
use native.Mathlib.Omega.{arith}
use Rattle.joined.proofs.after.play_after.Goals as goal
use Rattle.joined.proofs.after.play_after.Goals.{in-Refused, in-Played}

pub raised_tick-requires : goal.raised_tick-requires
unfolding replay_tick
raised_tick-requires c =
    let p = c.play_on-played in
    let n : replay_tick p.result.answer ≡ c.in-Refused.tick = ap replay_tick c.in-Refused.is in
    omega (arith, p.ensures.1)

pub raised_outcome-requires : goal.raised_outcome-requires
unfolding replay_tick
raised_outcome-requires c =
    let p = c.play_on-played in
    let n : replay_tick p.result.answer ≡ outcome_tick c.in-Played.o = ap replay_tick c.in-Played.is in
    omega (arith, p.ensures.1)

pub returns : goal.returns
unfolding raised_answer
returns c =
    let a = c.args in
    let p = c.play_on-played in
    after_answer a.t a.s a.before a.masks.now p.ensures.0
    (elim c.match-played.branch [
      | in-Refused w ↦ w.answer-is ∙ rw w.in-Refused.is (ap (Refused w.in-Refused.r) w.raised_tick.ensures)
      | in-Played w ↦ w.answer-is ∙ rw w.in-Played.is (ap Played w.raised_outcome.ensures)
    ])
