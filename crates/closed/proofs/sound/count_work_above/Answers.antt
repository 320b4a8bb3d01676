use Rattle.std.proofs.Common.{rules}
use Rattle.tasks.specs.Words.{state_of}
use Rattle.closed.specs.Keeping.{work_above}
use Rattle.closed.proofs.SoundLaws.{work_above_word}
use Rattle.closed.proofs.sound.count_work_above.Goals as goal

pub returns : goal.returns
returns c =
    c.count_places.ensures (work_above c.args.t (state_of c.args.v)) (λ i b h k. rw (← work_above_word c.args.t c.args.v i h) (search rules))
