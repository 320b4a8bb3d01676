-- Each key is looked up. Assumes nothing.
use Rattle.std.proofs.Common.{rules}
use Rattle.levels.specs.Verdict.{Holds}
use Rattle.states.specs.Keys.{key_in}
use Rattle.closed.specs.Keeping.{key_at}
use Rattle.closed.proofs.PendingLaws.{all_held_is}
use Rattle.closed.proofs.Ranges.{all_below}
use Rattle.closed.proofs.pending.all_held.Goals as goal

pub returns : goal.returns
unfolding key_at
returns c =
    let file = c.args.file.bytes.now in
    let n = c.args.file.n in
    let pending = c.args.pending.now in
    all_held_is file n pending c.args.count c.all.result
    (all_below c.args.count {Yes = λ i. Holds (key_in file) n (key_at pending i)} {No = λ i. Holds (key_in file) n (key_at pending i) → ⊥} c.all.result c.all.ensures.ran
    (λ x q k. (search rules, search rules)) (λ x q k. search rules))
