-- The word, and then the number. Assumes nothing.
use mathlib.Core.List.{◌++◌}
use Rattle.tasks.proofs.Stores.{storing_start, storing_step, storing_last}
use Rattle.lines.specs.Lines.{decimal}
use native.Mathlib.Omega.{arith}
use Rattle.lines.proofs.decimal.put_word.Goals as goal

pub returns : goal.returns
returns c =
    let a = c.args in
    let p = storing_start a.out.now a.at (a.word.now ++ decimal a.x) c.requires in
    let q = storing_step a.word.now (decimal a.x) p c.put_bytes-next.ensures.1 c.put_bytes-next.ensures.0 in
    (omega (arith, c.put_decimal.ensures.0, q.place), storing_last (decimal a.x) q c.put_decimal.ensures.1)
