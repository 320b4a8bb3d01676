-- Under Unsafe all masks of the trace space where L is no less than its length. Assumes nothing.
use Prim.Native.Nat.{ℕ, min}
use mathlib.Core.Path.{◌≡◌, refl}
use mathlib.Core.List.{List}
use lib.ListN.{length, take}
use lib.Seq.{take_all}
use native.Mathlib.Decide.{dec_lt}
use Rattle.lines.specs.Lines.{masks_given}
use native.Mathlib.Omega.{arith}
use Rattle.lines.proofs.text.masks_given.Goals as goal

take_least : (l : ℕ) (xs : List ℕ) → take (min l (length xs)) xs ≡ take l xs
take_least l xs =
    elim (dec_lt l (length xs)) [
      | yes h ↦ (let e : min l (length xs) ≡ l = omega arith in rw e)
      | no h ↦ (let e : min l (length xs) ≡ length xs = omega arith in rw (e, take_all (length xs) xs (omega arith), take_all l xs (omega arith)))
    ]

pub returns-in-Ok-Unsafe : goal.returns-in-Ok-Unsafe
unfolding masks_given
returns-in-Ok-Unsafe c =
    let v = rw c.in-Ok-Unsafe.is at c.in-Ok-Unsafe.field-0-is in
    rw (c.in-Ok-Unsafe.is, v, c.min.ensures) (take_least c.in-Ok-Unsafe.l c.args.trace.now)

pub returns-in-Ok-Safe : goal.returns-in-Ok-Safe
unfolding masks_given
returns-in-Ok-Safe c = let v = rw c.in-Ok-Safe.is at c.in-Ok-Safe.field-0-is in rw (c.in-Ok-Safe.is, v) refl

pub returns-in-Ok-NoRoom : goal.returns-in-Ok-NoRoom
unfolding masks_given
returns-in-Ok-NoRoom c = let v = rw c.in-Ok-NoRoom.is at c.in-Ok-NoRoom.field-0-is in rw (c.in-Ok-NoRoom.is, v) refl

pub returns-in-Err : goal.returns-in-Err
unfolding masks_given
returns-in-Err c = rw c.in-Err.is refl
