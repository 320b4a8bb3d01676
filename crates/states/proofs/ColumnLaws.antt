-- States that stand one after the other, and their keys: what a lookup by key says of states. Assumes nothing.
use Rattle.std.proofs.Common.{◌≡◌, ℕ, ◌*◌, List, get_or, sym, ap, ◌∙◌, w8, Fits}
use Rattle.tasks.specs.declared.state.State.{State}
use Rattle.levels.specs.Verdict.{Holds}
use Rattle.states.specs.Bytes.{state_in}
use Rattle.states.specs.Keys.{key_in, key_of}
use Rattle.states.proofs.KeyLaws.{key_from_lem, Bytes, bytes_from_lem, one_state}

-- the key of a state
pub key_in_lem : (w : List ℕ) (i : ℕ) → key_in w i ≡ key_of (state_in w i)
unfolding key_in state_in
key_in_lem w i = key_from_lem w (16 * i)

state_bytes_lem : (w : List ℕ) (i : ℕ) → ((k : ℕ) → Fits w8 (get_or w k 0)) → Bytes (state_in w i)
unfolding state_in
state_bytes_lem w i fits = bytes_from_lem w (16 * i) fits

-- LAW: a state is known by its key
pub held : (w : List ℕ) {n : ℕ} (s : State) → ((k : ℕ) → Fits w8 (get_or w k 0)) → Bytes s → Holds (key_in w) n (key_of s) → Holds (state_in w) n s
held w s fits bytes h =
    record { place = h.place; below = h.below; same = one_state (state_bytes_lem w h.place fits) bytes (sym (key_in_lem w h.place) ∙ h.same) }

pub held_key : (w : List ℕ) {n : ℕ} (s : State) → Holds (state_in w) n s → Holds (key_in w) n (key_of s)
held_key w s h = record { place = h.place; below = h.below; same = key_in_lem w h.place ∙ ap key_of h.same }
