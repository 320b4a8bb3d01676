-- The number of each answer. Assumes nothing.
use mathlib.Core.Path.{◌≡◌}
use mathlib.Core.Bool.{true, false}
use Rattle.std.proofs.Common.{rules}
use Rattle.std.specs.Prelude.{Ok, Err}
use Rattle.ronchhek.proofs.FileLaws.{file_judged}
use Rattle.ronchhek.proofs.files.ronchhek_closed.Goals as goal

pub returns-in-Ok-true : goal.returns-in-Ok-true
returns-in-Ok-true c =
    let e : c.closed_sheet.result ≡ Ok true = search rules in
    file_judged c.args.sheet.now c.args.states.now (Ok true) (rw e at c.closed_sheet.ensures)

pub returns-in-Ok-false : goal.returns-in-Ok-false
returns-in-Ok-false c =
    let e : c.closed_sheet.result ≡ Ok false = search rules in
    file_judged c.args.sheet.now c.args.states.now (Ok false) (rw e at c.closed_sheet.ensures)

pub returns-in-Err : goal.returns-in-Err
returns-in-Err c = rw (c.from.ensures, c.number.ensures) (file_judged c.args.sheet.now c.args.states.now (Err c.in-Err.why) c.in-Err.ensures)
