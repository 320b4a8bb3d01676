-- Too little room, or the totals at the front of the space. Assumes nothing.
use mathlib.Core.Path.{◌∙◌}
use lib.ListN.{length}
use borrow.Author.Tests.{lt-ltb, le-ltb}
use Rattle.service.proofs.ByteLaws.{space_short, space_front}
use Rattle.service.proofs.bytes.write_totals.Goals as goal

pub returns-then-out-lt192 : goal.returns-then-out-lt192
returns-then-out-lt192 c =
    let a = c.args in
    let h = c.if-out-lt192.true in
    (rw (lt-ltb (length a.out.now) 192 h), space_short a.x a.out.now h)

pub returns : goal.returns
returns c =
    let a = c.args in
    let h = c.if-out-lt192.false in
    (rw (le-ltb (length a.out.now) 192 h), c.put_rows.ensures ∙ space_front a.x a.out.now h)
