-- The place is compared with the key. Assumes nothing.
use Prim.Native.Nat.{◌%◌}
use mathlib.Core.Path.{ap, ◌∙◌}
use borrow.Author.Tests.{le-ltb}
use Rattle.states.specs.Keys.{same_keys}
use Rattle.closed.proofs.FileLaws.{named}
use Rattle.closed.proofs.cells.names.Goals as goal

pub returns-then-i-file : goal.returns-then-i-file
returns-then-i-file c =
    let a = c.args in
    named a.file.bytes.now (a.cell % 16777216) a.key c.same_keys.result c.if-i-file.true (c.same_keys.ensures ∙ ap (λ k. same_keys k a.key) c.key_in.ensures)

pub returns-else-i-file : goal.returns-else-i-file
returns-else-i-file c = rw (le-ltb _ _ c.if-i-file.false) tt
