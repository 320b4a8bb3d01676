-- Each answer's first line; that of Unsafe in two parts. Assumes nothing.
use Prim.Native.Nat.{ℕ, ◌≤◌}
use mathlib.Core.Path.{◌≡◌, ap, ◌∙◌}
use mathlib.Core.List.{List, ◌++◌}
use lib.ListN.{length}
use Rattle.std.specs.Prelude.{Result, Ok}
use Rattle.tasks.proofs.Stores.{Storing, storing_start, storing_step, storing_room, storing_left, storing_last}
use Rattle.search.specs.declared.run.Verdict.{Verdict}
use Rattle.search.specs.declared.run.Verdict.TheVariants.{Unsafe}
use Rattle.lines.specs.Lines.{decimal, line, unsafe_word, blank, first_line}
use native.Mathlib.Omega.{arith}
use Rattle.lines.proofs.text.put_first.Goals as goal

-- under Unsafe: the word with L, and then a line of the count
whole :
    (out : List ℕ) {a : Result Verdict ℕ} {l n : ℕ} → length (first_line a) ≤ length out → a ≡ Ok (Unsafe l n)
    → Storing out 0 ((unsafe_word ++ decimal l) ++ line blank n) out 0 ((unsafe_word ++ decimal l) ++ line blank n)
unfolding first_line
whole out {a} {l} {n} h e = storing_start out 0 ((unsafe_word ++ decimal l) ++ line blank n) (let p = rw e at h in omega arith)

pub put_line-requires : goal.put_line-requires
unfolding first_line
put_line-requires c = let h = rw (c.in-Ok-Safe.is, (rw c.in-Ok-Safe.is at c.in-Ok-Safe.field-0-is)) at c.requires in omega arith

pub put_word-next-requires : goal.put_word-next-requires
unfolding first_line
put_word-next-requires c =
    let w = unsafe_word ++ decimal c.in-Ok-Unsafe.l in
    let l = line blank c.in-Ok-Unsafe.n in
    storing_room w l (whole c.args.out.now c.requires (c.in-Ok-Unsafe.is ∙ ap Ok (rw c.in-Ok-Unsafe.is at c.in-Ok-Unsafe.field-0-is)))

pub put_line-requires-in-Ok-Unsafe : goal.put_line-requires-in-Ok-Unsafe
put_line-requires-in-Ok-Unsafe c =
    let w = unsafe_word ++ decimal c.in-Ok-Unsafe.l in
    let l = line blank c.in-Ok-Unsafe.n in
    let p = whole c.args.out.now c.requires (c.in-Ok-Unsafe.is ∙ ap Ok (rw c.in-Ok-Unsafe.is at c.in-Ok-Unsafe.field-0-is)) in
    storing_left l (storing_step w l p c.put_word-next.ensures.1 c.put_word-next.ensures.0)

pub put_line-requires-in-Ok-NoRoom : goal.put_line-requires-in-Ok-NoRoom
unfolding first_line
put_line-requires-in-Ok-NoRoom c = let h = rw (c.in-Ok-NoRoom.is, (rw c.in-Ok-NoRoom.is at c.in-Ok-NoRoom.field-0-is)) at c.requires in omega arith

pub put_line-requires-in-Err : goal.put_line-requires-in-Err
unfolding first_line
put_line-requires-in-Err c = let h = rw c.in-Err.is at c.requires in rw c.from.ensures (omega arith)

pub returns-in-Ok-Safe : goal.returns-in-Ok-Safe
unfolding first_line
returns-in-Ok-Safe c = rw (c.in-Ok-Safe.is, (rw c.in-Ok-Safe.is at c.in-Ok-Safe.field-0-is)) (omega (arith, c.put_line.ensures.0), c.put_line.ensures.1)

pub returns-in-Ok-Unsafe : goal.returns-in-Ok-Unsafe
unfolding first_line
returns-in-Ok-Unsafe c =
    let w = unsafe_word ++ decimal c.in-Ok-Unsafe.l in
    let l = line blank c.in-Ok-Unsafe.n in
    let p = whole c.args.out.now c.requires (c.in-Ok-Unsafe.is ∙ ap Ok (rw c.in-Ok-Unsafe.is at c.in-Ok-Unsafe.field-0-is)) in
    let q = storing_step w l p c.put_word-next.ensures.1 c.put_word-next.ensures.0 in
    rw (c.in-Ok-Unsafe.is, (rw c.in-Ok-Unsafe.is at c.in-Ok-Unsafe.field-0-is)) (omega (arith, c.put_line-in-Ok-Unsafe.ensures.0, q.place), storing_last l q c.put_line-in-Ok-Unsafe.ensures.1)

pub returns-in-Ok-NoRoom : goal.returns-in-Ok-NoRoom
unfolding first_line
returns-in-Ok-NoRoom c = rw (c.in-Ok-NoRoom.is, (rw c.in-Ok-NoRoom.is at c.in-Ok-NoRoom.field-0-is)) (omega (arith, c.put_line-in-Ok-NoRoom.ensures.0), c.put_line-in-Ok-NoRoom.ensures.1)

pub returns-in-Err : goal.returns-in-Err
unfolding first_line
returns-in-Err c =
    let w = rw c.from.ensures at c.put_line-in-Err.ensures in
    rw c.in-Err.is (omega (arith, w.0), w.1)
