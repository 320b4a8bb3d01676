use Rattle.std.proofs.Common.{rules}
use Rattle.tasks.specs.State.{started}
use Rattle.tasks.specs.Words.{state_of}
use Rattle.closed.proofs.SoundLaws.{started_word}
use Rattle.closed.proofs.sound.count_started.Goals as goal

pub returns : goal.returns
returns c =
    c.count_places.ensures (started c.args.t (state_of c.args.v)) (λ i b h k. rw (← started_word c.args.t c.args.v i h) (search rules))
