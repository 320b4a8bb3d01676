-- Number by number. Assumes nothing.
use Rattle.cut.specs.Cut.{cut_table}
use Rattle.cut.proofs.tables.first_tasks.Goals as goal

pub returns : goal.returns
unfolding cut_table
returns c =
    let a = c.args in
    λ x.
    record {
      policy = a.t.policy;
      m = a.t.m;
      n = a.k;
      work = c.first_of.ensures x;
      deadline = c.first_of-2.ensures x;
      gap = c.first_of-3.ensures x;
    }
