-- By what the words of a key are. Assumes nothing.
use Rattle.std.proofs.Common.{◌∙◌, arith}
use Rattle.states.specs.Keys.{key_of}
use Rattle.states.proofs.WordLaws.{key_word}
use Rattle.states.proofs.keys.key_of.Goals as goal

pub returns : goal.returns
unfolding key_of
returns c =
    let v = c.args.v in
    λ x. record {
      a = (c.double.ensures ∙ key_word v 0 (omega arith)) x;
      b = (c.double-2.ensures ∙ key_word v 1 (omega arith)) x;
      c = (c.double-3.ensures ∙ key_word v 2 (omega arith)) x;
      d = (c.double-4.ensures ∙ key_word v 3 (omega arith)) x;
    }
