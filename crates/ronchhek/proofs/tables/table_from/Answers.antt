use Rattle.ronchhek.specs.Tables.{table_from}
use Rattle.ronchhek.proofs.tables.table_from.Goals as goal

pub returns : goal.returns
unfolding table_from
returns c = rw (c.column.ensures, c.column-2.ensures, c.column-3.ensures)
