use Rattle.std.proofs.Common.{rules, ◌∙◌}
use Rattle.tasks.specs.Tight.{tight_at, tight}
use Rattle.tasks.specs.Words.{state_of}
use Rattle.tasks.proofs.NoMiss.{tight_word}
use Rattle.tasks.proofs.slack.tight.Goals as goal

pub returns : goal.returns
unfolding tight
returns c =
    let t = c.args.t in
    let v = c.args.v in
    c.any_place.ensures (tight_at t (state_of v)) (λ i b h k. (search rules) ∙ tight_word t v i h)
