-- The submasks of a byte, and the rule of the next one computed for every byte. Assumes nothing.
use Rattle.std.proofs.Common.{◌≡◌, ℕ, zero, suc, Bool, true, false, not, ◌&&◌, eqb, refl}
use Rattle.lists.specs.Lists.{pick}
unfoldable pub use Rattle.states.specs.Masks.{all, submask}
use Rattle.states.specs.Masks.{next_mask, follows}

abbrev pub same : Bool → Bool → Bool
same true b = b
same false b = not b

-- from x on, the k numbers up to 256: exactly those that are due are submasks
unfoldable pub checks : ℕ → ℕ → ℕ → ℕ → Bool
checks zero free x due = eqb due 256
checks (suc k) free x due =
    same (submask free x) (eqb x due) && checks k free (suc x) (pick (eqb x due) (follows free x) due)

pub every : all 256 (λ free. checks 256 free 0 0) ≡ true
unfolding all submask next_mask follows checks
every = refl
