-- By what the four bytes are. Assumes nothing.
use mathlib.Core.Path.{sym, ap, ◌∙◌}
use mathlib.Core.List.{List, ◌++◌}
use Prim.Native.Nat.{ℕ}
use lib.ListN.{drop}
use lib.Seq.{sets-eq}
use Rattle.slots.specs.Layout.{four_bytes}
use Rattle.slots.proofs.write.put_parent.Goals as goal

pub returns : goal.returns
unfolding four_bytes
returns c =
    let p = c.args.part.now in
    ap (λ (l : List ℕ). l ++ drop 4 p) (c.copy_from_slice.ensures.after ∙ c.to_le_bytes.ensures) ∙ sym (sets-eq (four_bytes c.args.x) p 0 c.requires)
