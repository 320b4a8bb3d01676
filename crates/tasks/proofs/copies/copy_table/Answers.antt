-- 52 bytes are room for every sheet, and what was written is read as the table. Assumes nothing.
use Rattle.tasks.specs.Answers.{writing_answer}
use Rattle.tasks.specs.Sheet.{sheet_of}
use lib.Seq.{length-take-le}
use Prim.Native.Nat.{◌≤◌}
use lib.ListN.{length, take}
use Rattle.tasks.proofs.Again.{again_refused, again_written}
use mathlib.Core.Path.{◌≡◌, sym, ap, ◌∙◌}
use native.Mathlib.Omega.{arith}
use borrow.Author.Rules.{rules}
use Rattle.std.specs.Prelude.{Err}
use Rattle.tasks.proofs.copies.copy_table.Goals as goal

pub returns-in_err-n : goal.returns-in_err-n
returns-in_err-n c =
    let r : c.from_residual.result ≡ Err c.in_err-n.field-0.0 = search rules in
    r ∙ again_refused c.args.t _ (omega arith) c.in_err-n.field-0.0 (ap writing_answer (sym c.in_err-n.was) ∙ c.write_sheet.ensures.0)

pub slice_bounds-out-end : goal.slice_bounds-out-end
slice_bounds-out-end c =
    let w = again_written c.args.t _ (omega arith) (record { work = search rules; deadline = search rules; gap = search rules }) _ (ap writing_answer (sym c.in_ok-n.was) ∙ c.write_sheet.ensures.0) in
    let k : length c.write_sheet.new.out ≡ 52 = c.write_sheet.auto.out in
    let h : c.in_ok-n.n ≤ length c.write_sheet.new.out = omega (arith, w.0) in
    h

pub slice_bounds-read_sheet-end : goal.slice_bounds-read_sheet-end
slice_bounds-read_sheet-end c =
    let w = again_written c.args.t _ (omega arith) (record { work = search rules; deadline = search rules; gap = search rules }) _ (ap writing_answer (sym c.in_ok-n.was) ∙ c.write_sheet.ensures.0) in
    let k : length c.write_sheet.new.out ≡ 52 = c.write_sheet.auto.out in
    let h : c.in_ok-n.n ≤ length c.write_sheet.new.out = omega (arith, w.0) in
    sym (length-take-le c.in_ok-n.n c.write_sheet.new.out h)

pub returns : goal.returns
returns c =
    let w = again_written c.args.t _ (omega arith) (record { work = search rules; deadline = search rules; gap = search rules }) _ (ap writing_answer (sym c.in_ok-n.was) ∙ c.write_sheet.ensures.0) in
    c.read_sheet.ensures ∙ ap (λ l. sheet_of (take c.in_ok-n.n l)) c.write_sheet.ensures.1 ∙ w.1
