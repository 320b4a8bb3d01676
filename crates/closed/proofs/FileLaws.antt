-- The states of a file and their keys: what a lookup by key says of states. Assumes nothing.
use Prim.Native.Nat.{ℕ, ◌<◌}
use mathlib.Core.Path.{◌≡◌, refl, sym}
use mathlib.Core.Bool.{Bool, true, false}
use mathlib.Core.List.{List}
use native.Mathlib.Omega.{arith}
use Rattle.std.specs.Bool.{MatchBool}
use Rattle.tasks.specs.State.{start}
use Rattle.lists.proofs.Fill.{eight_at}
use Rattle.states.specs.Keys.{same_keys, key_in}
use Rattle.states.specs.declared.keys.Key.{Key}
use Rattle.states.proofs.KeyLaws.{Bytes, keys_same}
use Rattle.closed.specs.Keeping.{HeldIs, NamedIs}

-- ---- what is compared

-- a place that is compared with the key
pub named : (file : List ℕ) {n : ℕ} (i : ℕ) (key : Key) (b : Bool) → i < n → b ≡ same_keys (key_in file i) key → NamedIs file n key b
named file i key true h e = record { place = i; below = h; same = keys_same (key_in file i) key (sym e) }
named file i key false h e = tt

-- one of the first n states has the key, or none does
pub held_is : (file : List ℕ) (n : ℕ) (key : Key) (r : Bool) → MatchBool r ((k : ℕ) × (k < n) × (key_in file k ≡ key)) ((k : ℕ) → k < n → key_in file k ≡ key → ⊥) → HeldIs file n key r
held_is file n key true h = record { place = h.0; below = h.1; same = h.2 }
held_is file n key false h = λ x. h x.place x.below x.same

-- the start state has bytes
pub start_bytes : Bytes start
start_bytes = record {
  c_length = refl;
  p_length = refl;
  c_fits = λ k b. rw (eight_at {A = ℕ} 0 (λ i. 0) k b) (omega arith);
  p_fits = λ k b. rw (eight_at {A = ℕ} 0 (λ i. 0) k b) (omega arith);
}
