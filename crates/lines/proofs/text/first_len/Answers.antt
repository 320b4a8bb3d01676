-- The length of each answer's first line. Assumes nothing.
use mathlib.Core.Path.{◌≡◌, ap, ◌∙◌}
use lib.ListN.{length}
use Rattle.lines.specs.Lines.{decimal}
use Rattle.lines.proofs.LineLaws.{safe_length, unsafe_length, room_length, refused_length}
use native.Mathlib.Omega.{arith}
use Rattle.lines.proofs.text.first_len.Goals as goal

pub returns-in-Ok-Safe : goal.returns-in-Ok-Safe
returns-in-Ok-Safe c =
    let v = rw c.in-Ok-Safe.is at c.in-Ok-Safe.field-0-is in
    let e = c.decimal_len.ensures in
    (rw (c.in-Ok-Safe.is, v) (omega (arith, e.0, safe_length c.in-Ok-Safe.n)), omega (arith, e.1))

pub returns-in-Ok-Unsafe : goal.returns-in-Ok-Unsafe
returns-in-Ok-Unsafe c =
    let v = rw c.in-Ok-Unsafe.is at c.in-Ok-Unsafe.field-0-is in
    let e = c.decimal_len-in-Ok-Unsafe-2.ensures in
    let d = c.decimal_len-in-Ok-Unsafe.ensures in
    (rw (c.in-Ok-Unsafe.is, v) (omega (arith, e.0, d.0, unsafe_length c.in-Ok-Unsafe.l c.in-Ok-Unsafe.n)), omega (arith, e.1, d.1))

pub returns-in-Ok-NoRoom : goal.returns-in-Ok-NoRoom
returns-in-Ok-NoRoom c =
    let v = rw c.in-Ok-NoRoom.is at c.in-Ok-NoRoom.field-0-is in
    let e = c.decimal_len-in-Ok-NoRoom.ensures in
    (rw (c.in-Ok-NoRoom.is, v) (omega (arith, e.0, room_length c.in-Ok-NoRoom.n)), omega (arith, e.1))

pub returns-in-Err : goal.returns-in-Err
returns-in-Err c =
    let e = c.decimal_len-in-Err.ensures in
    let d : c.decimal_len-in-Err.result ≡ length (decimal c.in-Err.why) = e.0 ∙ ap (λ x. length (decimal x)) c.from.ensures in
    (rw c.in-Err.is (omega (arith, refused_length c.in-Err.why)), omega (arith, e.1))
