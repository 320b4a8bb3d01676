-- One bit of twelve. Assumes nothing.
use Prim.Native.Nat.{◌/◌, ◌%◌, ◌^◌}
use mathlib.Core.Path.{ap, ◌∙◌}
use Rattle.search.specs.Indexed.{tag_for}
use Rattle.search.proofs.TagLaws.{tag_small}
use native.Mathlib.Omega.{arith}
use Rattle.search.proofs.index.tag_bit.Goals as goal

pub returns : goal.returns
unfolding tag_for
returns c =
    let t = tag_small (c.mix.result / 262144 % 12) (omega arith) in
    let e = c.mix.ensures in
    (t.0 ∙ ap (λ x. 2 ^ (x / 262144 % 12)) e, rw t.0 t.1)
