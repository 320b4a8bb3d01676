use Rattle.ticks.proofs.ticked.Goals as goal

pub returns : goal.returns
returns c = rw (c.after.ensures, c.prepare-ready.ensures, c.words.ensures)
