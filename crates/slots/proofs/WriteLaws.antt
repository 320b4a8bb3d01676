-- The laws of the writers: a state's bytes stored two by two, and a state alone in a space. Assumes nothing.
use Prim.Native.Nat.{ℕ, zero, suc, ◌+◌, ◌*◌, ◌≤◌, ◌<◌}
use mathlib.Core.Path.{◌≡◌, refl, sym, ap}
use mathlib.Core.List.{List, [], ◌∷◌, ◌++◌}
use native.Mathlib.Omega.{arith}
use native.Mathlib.Numerals.{add-one}
use lib.ListN.{length, drop, set, length-append}
use lib.Seq.{sets, sets-eq}
use borrow.Author.Tests.{lt-ltb, le-ltb}
use Rattle.std.specs.Prelude.{Ok, Err}
use Rattle.tasks.specs.declared.refusal.Refusal.TheVariants.{ShortOutput}
use Rattle.tasks.specs.declared.state.State.{State}
use Rattle.tasks.proofs.Stores.{storing_start, storing_step}
use Rattle.states.specs.Bytes.{twos, state_bytes}
use Rattle.slots.specs.StateSpace.{state_writing, state_space}
use Rattle.slots.proofs.Bytes.{twos_length}

-- a run of stores in two parts
sets_append : (l a b : List ℕ) → length a + length b ≤ length l → sets l 0 (a ++ b) ≡ sets (sets l 0 a) (length a) b
sets_append l a b h =
    sym (storing_step a b (storing_start l 0 (a ++ b) (omega (arith, length-append a b))) {at' = length a} refl (omega arith)).stored

twos_more : (k : ℕ) (f g : ℕ → ℕ) → twos (suc k) f g ≡ twos k f g ++ f k ∷ g k ∷ []
twos_more zero f g = refl
twos_more (suc k) f g = ap (λ (l : List ℕ). f 0 ∷ g 0 ∷ l) (twos_more k (λ j. f (suc j)) (λ j. g (suc j)))

-- one turn of the writer's loop
pub put_turn :
    (l₀ l : List ℕ) (k : ℕ) (f g : ℕ → ℕ) → 2 * k + 2 ≤ length l₀ → l ≡ sets l₀ 0 (twos k f g)
    → set (set l (2 * k) (f k)) (2 * k + 1) (g k) ≡ sets l₀ 0 (twos (k + 1) f g)
put_turn l₀ l k f g h e =
    rw (add-one k, twos_more k f g, sets_append l₀ (twos k f g) (f k ∷ g k ∷ []) (omega (arith, twos_length k f g)), twos_length k f g, add-one (2 * k), e)

-- a state alone at the front of a space that is long enough
state_stored : (s : State) (l : List ℕ) → 16 ≤ length l → sets l 0 (state_bytes s) ≡ state_bytes s ++ drop 16 l
unfolding state_bytes
state_stored s l h = sets-eq (state_bytes s) l 0 h

pub space_short : (s : State) (out : List ℕ) → length out < 16 → (state_writing out ≡ Err ShortOutput) × (state_space s out ≡ out)
unfolding state_space
space_short s out h = let e = lt-ltb (length out) 16 h in (rw e, rw e)

pub space_room : (s : State) (out : List ℕ) → 16 ≤ length out → (state_writing out ≡ Ok 16) × (state_space s out ≡ sets out 0 (state_bytes s))
unfolding state_space
space_room s out h = let e = le-ltb (length out) 16 h in (rw e, rw e (sym (state_stored s out h)))
