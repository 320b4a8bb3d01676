-- Each state is judged. Assumes nothing.
use Rattle.std.proofs.Common.{rules}
use Rattle.states.specs.Bytes.{state_in}
use Rattle.closed.specs.Keeping.{SoundState}
use Rattle.closed.proofs.RowLaws.{sound_is}
use Rattle.closed.proofs.Ranges.{all_below}
use Rattle.closed.proofs.check.all_sound.Goals as goal

pub returns : goal.returns
returns c =
    let file = c.args.file.bytes.now in
    let t = c.args.ticking.table in
    sound_is t file c.requires.is c.all.result
    (all_below c.args.file.n {Yes = λ i. SoundState t (state_in file i)} {No = λ i. SoundState t (state_in file i) → ⊥} c.all.result c.all.ensures.ran
    (λ x q k. (search rules, search rules)) (λ x q k. search rules))
