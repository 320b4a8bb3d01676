-- The refusals by cause (document 01, "Refusals by cause"; 14 of document 02, §1; 15 and 16 of §8), each with its number.
use Rattle.std.specs.Prelude.{ℕ, eqb, ltb, Result}
use Rattle.std.specs.declared.result.Result.TheVariants.{Ok, Err}
use Rattle.lists.specs.Lists.{pick}
use Rattle.tasks.specs.declared.refusal.Refusal.{Refusal}
use Rattle.tasks.specs.declared.refusal.Refusal.TheVariants.{Incomplete, SecondByte, FieldCount, Policy, Processors, TaskCount, Task, LaterBytes, NoSlot, ShortTrace, Mask, ShortOutput, Improper, FileLength, MarkNumber, MarkUnset}

abbrev pub refusal_number : Refusal → ℕ
refusal_number Incomplete = 1
refusal_number SecondByte = 2
refusal_number FieldCount = 3
refusal_number Policy = 4
refusal_number Processors = 5
refusal_number TaskCount = 6
refusal_number Task = 7
refusal_number LaterBytes = 8
refusal_number NoSlot = 9
refusal_number ShortTrace = 10
refusal_number Mask = 11
refusal_number ShortOutput = 12
refusal_number Improper = 13
refusal_number FileLength = 14
refusal_number MarkNumber = 15
refusal_number MarkUnset = 16

-- the refusal of a number
unfoldable pub refusal_at : ℕ → Refusal
refusal_at r =
    pick (eqb r 1) Incomplete
    (pick (eqb r 2) SecondByte
    (pick (eqb r 3) FieldCount
    (pick (eqb r 4) Policy
    (pick (eqb r 5) Processors
    (pick (eqb r 6) TaskCount
    (pick (eqb r 7) Task
    (pick (eqb r 8) LaterBytes
    (pick (eqb r 9) NoSlot
    (pick (eqb r 10) ShortTrace
    (pick (eqb r 11) Mask
    (pick (eqb r 12) ShortOutput
    (pick (eqb r 13) Improper
    (pick (eqb r 14) FileLength
    (pick (eqb r 15) MarkNumber
    MarkUnset))))))))))))))

-- the refusal of number r, or a value where r is 0
unfoldable pub unless_refused : {A : Type 0} → ℕ → A → Result A Refusal
unless_refused r x = pick (ltb 0 r) (Err (refusal_at r)) (Ok x)
