-- By what the four numbers are. Assumes nothing.
use Rattle.states.specs.Keys.{key_in}
use Rattle.states.proofs.column.key_in.Goals as goal

pub returns : goal.returns
unfolding key_in
returns c =
    λ x. record {
      a = c.four_at.ensures x;
      b = c.four_at-2.ensures x;
      c = c.four_at-3.ensures x;
      d = c.four_at-4.ensures x;
    }
