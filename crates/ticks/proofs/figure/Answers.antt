use Rattle.ticks.specs.Ticks.{figure}
use Rattle.ticks.proofs.Sums.{bool_number}
use Rattle.ticks.proofs.figure.Goals as goal

pub returns : goal.returns
unfolding figure
returns c =
    rw
    (c.word.ensures, c.word-2.ensures, bool_number c.misses.result, c.misses.ensures, c.of_words-s.ensures)
