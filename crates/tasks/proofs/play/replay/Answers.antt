-- From the start state, with no tick before. Assumes nothing.
use mathlib.Core.Path.{ap, ◌∙◌}
use Rattle.tasks.specs.Replay.{played_from}
use Rattle.tasks.proofs.Played.{replay_names, replayed_from}
use Rattle.tasks.proofs.play.replay.Goals as goal

pub returns : goal.returns
returns c =
    let a = c.args in
    replay_names a.t a.masks.now
    (c.play_on.ensures.0 ∙ ap (λ s. played_from a.t s 0 a.masks.now) c.start-start.ensures ∙ replayed_from a.t a.masks.now)
