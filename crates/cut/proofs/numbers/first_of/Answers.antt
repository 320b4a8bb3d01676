use lib.Dec.{ltb}
use lib.ListN.{get_or}
use Rattle.std.proofs.Common.{arith}
use Rattle.std.proofs.lemmas.Grind.{common_steps}
use Rattle.lists.specs.Lists.{pick}
use Rattle.lists.proofs.Made.{made}
use Rattle.cut.proofs.numbers.first_of.Goals as goal

pub returns : goal.returns
returns c = made _ (λ i. pick (ltb i c.args.k) (get_or c.args.a i 0) 0) (λ i y q l k. grind (arith, common_steps)) c.from_fn.ensures.items
