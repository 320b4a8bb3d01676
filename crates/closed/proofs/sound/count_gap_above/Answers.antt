use Rattle.std.proofs.Common.{rules}
use Rattle.tasks.specs.Words.{state_of}
use Rattle.closed.specs.Keeping.{gap_above}
use Rattle.closed.proofs.SoundLaws.{gap_above_word}
use Rattle.closed.proofs.sound.count_gap_above.Goals as goal

pub returns : goal.returns
returns c =
    c.count_places.ensures (gap_above c.args.t (state_of c.args.v)) (λ i b h k. rw (← gap_above_word c.args.t c.args.v i h) (search rules))
