-- A tick below 2^48 has room beside the kind. Assumes nothing.
use mathlib.Core.Path.{◌≡◌}
use native.Mathlib.Omega.{arith}
use Rattle.std.proofs.Common.{rules}
use Rattle.std.specs.Prelude.{Ok}
use Rattle.tasks.specs.Replay.{outcome_tick}
use Rattle.tasks.specs.declared.play.Outcome.TheVariants.{Missed}
use Rattle.ronchhek.proofs.replays.replay_number.Goals as goal

pub overflow_add-result : goal.overflow_add-result
unfolding outcome_tick
overflow_add-result c =
    let e : c.args.answer ≡ Ok (Missed c.in-Ok-Missed.tick) = search rules in
    omega (arith, rw e at c.requires)
