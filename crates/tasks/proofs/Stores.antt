-- A run of stores, made in parts: `rest` is what is left to store, at the place `at`. Assumes nothing.
use Prim.Native.Nat.{ℕ, suc, ◌+◌, ◌≤◌}
use mathlib.Core.Path.{◌≡◌, refl, sym, ap, ◌∙◌}
use mathlib.Core.List.{List, [], ◌∷◌, ◌++◌}
use native.Mathlib.Omega.{arith}
use lib.ListN.{length, set, length-append}
use lib.Seq.{sets, length-sets}

sets_append : (a b l : List ℕ) (i : ℕ) → sets l i (a ++ b) ≡ sets (sets l i a) (i + length a) b
sets_append [] b l i = let e : i ≡ i + 0 = omega arith in ap (λ j. sets l j b) e
sets_append (x ∷ a) b l i =
    let e : suc i + length a ≡ i + suc (length a) = omega arith in
    sets_append a b (set l i x) (suc i) ∙ ap (λ j. sets (sets (set l i x) (suc i) a) j b) e

-- of `whole`, to be stored in `old` from the place `from` on, `rest` is left, and `out` is what is stored so far
pub record Storing (old : List ℕ) (from : ℕ) (whole out : List ℕ) (at : ℕ) (rest : List ℕ) : Type 0 where
  pub stored : sets out at rest ≡ sets old from whole
  pub place : at + length rest ≡ from + length whole
  pub len : length out ≡ length old
  pub room : from + length whole ≤ length old

pub storing_start : (old : List ℕ) (from : ℕ) (whole : List ℕ) → from + length whole ≤ length old → Storing old from whole old from whole
storing_start old from whole h = record { stored = refl; place = refl; len = refl; room = h }

module _ {old : List ℕ} {from : ℕ} {whole out : List ℕ} {at : ℕ} where
  pub storing_room : (a rest : List ℕ) → Storing old from whole out at (a ++ rest) → at + length a ≤ length out
  storing_room a rest s = omega (arith, s.place, s.len, s.room, length-append a rest)

  pub storing_step :
      (a rest : List ℕ) → Storing old from whole out at (a ++ rest) → {out' : List ℕ} {at' : ℕ} → out' ≡ sets out at a → at' ≡ at + length a
      → Storing old from whole out' at' rest
  storing_step a rest s {out'} {at'} e h =
      record {
        stored = rw (e, h) (sym (sets_append a rest out at) ∙ s.stored);
        place = omega (arith, s.place, length-append a rest);
        len = ap length e ∙ length-sets out at a ∙ s.len;
        room = s.room;
      }

  -- the last part
  pub storing_last : (rest : List ℕ) → Storing old from whole out at rest → {out' : List ℕ} → out' ≡ sets out at rest → out' ≡ sets old from whole
  storing_last rest s e = e ∙ s.stored

  pub storing_left : (rest : List ℕ) → Storing old from whole out at rest → at + length rest ≤ length out
  storing_left rest s = omega (arith, s.place, s.len, s.room)

  -- nothing is left
  pub storing_end : Storing old from whole out at [] → out ≡ sets old from whole
  storing_end s = s.stored
