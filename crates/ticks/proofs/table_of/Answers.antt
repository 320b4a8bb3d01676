use Rattle.ticks.specs.Ticks.{table_of}
use Rattle.ticks.proofs.table_of.Goals as goal

pub returns : goal.returns
unfolding table_of
returns c = rw (c.bytes_from.ensures, c.bytes_from-2.ensures, c.bytes_from-3.ensures)
