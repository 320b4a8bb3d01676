-- Each state's key is compared. Assumes nothing.
use mathlib.Core.Path.{◌≡◌}
use Rattle.std.proofs.Common.{rules}
use Rattle.states.specs.Keys.{key_in}
use Rattle.states.proofs.KeyLaws.{keys_same, keys_differ}
use Rattle.closed.proofs.FileLaws.{held_is}
use Rattle.closed.proofs.Ranges.{any_below}
use Rattle.closed.proofs.file.File.scan.Goals as goal

pub returns : goal.returns
returns c =
    let file = c.args.self.bytes.now in
    let key = c.args.key in
    held_is file c.args.self.n key c.any.result
    (any_below c.args.self.n {Yes = λ i. key_in file i ≡ key} {No = λ i. key_in file i ≡ key → ⊥} c.any.result c.any.ensures.ran
    (λ x q k. keys_same _ _ (search rules))
    (λ x q k. (search rules, keys_differ _ _ (search rules))))
