-- The word with its number, and then the end of the line. Assumes nothing.
use mathlib.Core.List.{[], ◌∷◌, ◌++◌}
use Rattle.tasks.proofs.Stores.{storing_start, storing_step, storing_room, storing_left, storing_last}
use Rattle.lines.specs.Lines.{decimal, line}
use native.Mathlib.Omega.{arith}
use Rattle.lines.proofs.decimal.put_line.Goals as goal

pub put_word-next-requires : goal.put_word-next-requires
unfolding line
put_word-next-requires c =
    let a = c.args in
    let w = a.word.now ++ decimal a.x in
    storing_room w (10 ∷ []) (storing_start a.out.now a.at (w ++ 10 ∷ []) c.requires)

pub put_bytes-requires : goal.put_bytes-requires
unfolding line
put_bytes-requires c =
    let a = c.args in
    let w = a.word.now ++ decimal a.x in
    let p = storing_start a.out.now a.at (w ++ 10 ∷ []) c.requires in
    storing_left (10 ∷ []) (storing_step w (10 ∷ []) p c.put_word-next.ensures.1 c.put_word-next.ensures.0)

pub returns : goal.returns
unfolding line
returns c =
    let a = c.args in
    let w = a.word.now ++ decimal a.x in
    let p = storing_start a.out.now a.at (w ++ 10 ∷ []) c.requires in
    let q = storing_step w (10 ∷ []) p c.put_word-next.ensures.1 c.put_word-next.ensures.0 in
    (omega (arith, c.put_bytes.ensures.0, q.place), storing_last (10 ∷ []) q c.put_bytes.ensures.1)
