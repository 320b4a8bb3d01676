-- The bytes are no table, or the table's sheet is written or refused. Assumes nothing.
use Prim.Native.Nat.{◌<◌}
use mathlib.Core.Path.{◌≡◌, ◌∙◌}
use native.Mathlib.Omega.{arith}
use lib.ListN.{length}
use lib.Seq.{take_all}
use Rattle.std.proofs.Common.{rules}
use Rattle.ronchhek.specs.Tables.{table_from}
use Rattle.ronchhek.proofs.TableLaws.{table_short, table_long, table_whole, sheet_told}
use Rattle.ronchhek.proofs.tables.write_table.Goals as goal

pub returns-in_default : goal.returns-in_default
returns-in_default c =
    let w = table_short c.args.table.now c.args.out.now c.in_default.ensures.cases in
    record { number = w.0; few = search rules; space = w.1 }

pub returns-then-not-is_empty : goal.returns-then-not-is_empty
returns-then-not-is_empty c =
    let some : 0 < length c.in-Some.later.now = search rules in
    let w = table_long c.args.table.now c.args.out.now (omega (arith, c.in-Some.ensures.cases)) in
    record { number = w.0; few = search rules; space = w.1 }

pub returns : goal.returns
returns c =
    let a = c.args in
    let split = c.in-Some.ensures.cases in
    let none : length c.in-Some.later.now ≡ 0 = search rules in
    let all : c.in-Some.bytes.now ≡ a.table.now = split.0 ∙ take_all 27 a.table.now (omega (arith, split.2)) in
    let is = table_whole a.table.now a.out.now (omega (arith, split.2)) (omega (arith, split.2)) in
    let written = rw (c.table_from.ensures, all) at c.write_sheet.ensures in
    let told = sheet_told (table_from a.table.now) a.out.now c.write_sheet.result written.0 in
    record { number = told.0 ∙ is.0; few = told.1; space = written.1 ∙ is.1 }
