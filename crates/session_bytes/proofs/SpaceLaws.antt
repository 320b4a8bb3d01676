-- The states of a session in its bytes, one by one, and that a call reads and writes the first 145 bytes alone. Assumes nothing.
use Prim.Native.Nat.{ℕ, zero, suc, ◌+◌, ◌-◌, ◌*◌, ◌≤◌, ◌<◌}
use mathlib.Core.Path.{◌≡◌, refl, ap, ap₂, subst, ◌∙◌}
use mathlib.Core.List.{List, [], ◌∷◌, ◌++◌}
use native.Mathlib.Omega.{arith}
use native.Mathlib.Numerals.{add-one}
use lib.ListN.{length, get_or, set, take, drop, length-set, length-drop, get_or-append}
use lib.Seq.{sets, length-sets, take_all, get_or-drop, set-append_left}
use Rattle.std.specs.Prelude.{Option, Some, None, Result, Ok, Err}
use Rattle.lists.specs.Lists.{pick}
use Rattle.tasks.specs.Tick.{bit}
use Rattle.tasks.specs.declared.refusal.Refusal.{Refusal}
use Rattle.tasks.specs.declared.tick.Step.{Step}
use Rattle.tasks.specs.declared.state.State.{State}
use Rattle.states.specs.Bytes.{state_from, state_in, state_bytes}
use Rattle.slots.specs.StateSpace.{state_space}
use Rattle.session.specs.Session.{empty, mark_in}
use Rattle.session.specs.declared.calls.Called.{Called}
use Rattle.session.specs.declared.marks.Session.{Session}
use Rattle.session_bytes.specs.Space.{place, mark_from, session_from, flags, stored_written, mark_written, marks_written, session_written, space_by, space_after}
use Rattle.lists.proofs.Fill.{eight_same}
use Rattle.slots.proofs.Bytes.{state_same, state_length, lent_sets}
use Rattle.slots.proofs.WriteLaws.{space_room}

-- a state after the flags
pub state_after : (w : List ℕ) (j : ℕ) → length w ≡ 145 → state_in (take 144 (drop 1 w)) j ≡ state_from w (place j)
unfolding state_in
state_after w j n =
    ap (λ l. state_from l (16 * j)) (take_all 144 (drop 1 w) (omega (arith, length-drop 1 w)))
    ∙ state_same (drop 1 w) w (16 * j) (place j) (λ k h. get_or-drop 1 w (16 * j + k) 0 ∙ ap (λ n. get_or w n 0) (omega arith))

-- a state written alone in the part of a space that starts at its place
state_lent :
    (w : List ℕ) (at : ℕ) (s : State) {part : List ℕ} → at + 16 ≤ length w → part ≡ state_space s (take (length w - at) (drop at w))
    → take at w ++ (part ++ drop (length w - at) (drop at w)) ≡ sets w at (state_bytes s)
state_lent w at s h e =
    lent_sets w at (state_bytes s) _
    (e ∙ (space_room s (take (length w - at) (drop at w)) (room)).1)
    (omega (arith, state_length s))
  where
    room : 16 ≤ length (take (length w - at) (drop at w))
    room = rw (take_all (length w - at) (drop at w) (omega (arith, length-drop at w))) (omega (arith, length-drop at w))

pub state_put :
    (w : List ℕ) (at : ℕ) (s : State) {part : List ℕ} → length w ≡ 145 → at + 16 ≤ 145 → part ≡ state_space s (take (145 - at) (drop at w))
    → take at w ++ (part ++ drop (145 - at) (drop at w)) ≡ sets w at (state_bytes s)
state_put w at s {part} n h =
    subst (λ m. part ≡ state_space s (take (m - at) (drop at w)) → take at w ++ (part ++ drop (m - at) (drop at w)) ≡ sets w at (state_bytes s)) n
    (state_lent w at s (omega arith))

-- writing a mark keeps the length
stored_length : (o : Option State) (j : ℕ) (b : List ℕ) → length (stored_written o j b) ≡ length b
stored_length None j b = refl
stored_length (Some s) j b = length-sets b (place j) (state_bytes s)

mark_length : (x : Session) (i : ℕ) (b : List ℕ) → length (mark_written x i b) ≡ length b
unfolding mark_written
mark_length x i b = stored_length (mark_in x i) (i + 1) b

-- one mark more
pub marks_none : (x : Session) (b : List ℕ) → b ≡ marks_written x 0 b
unfolding marks_written
marks_none x b = refl

pub marks_turn : (x : Session) (i : ℕ) (b : List ℕ) {l : List ℕ} → l ≡ marks_written x i b → mark_written x i l ≡ marks_written x (i + 1) b
unfolding marks_written
marks_turn x i b e = rw (add-one i) (ap (mark_written x i) e)

pub marks_length : (x : Session) (n : ℕ) (b : List ℕ) → length (marks_written x n b) ≡ length b
unfolding marks_written
marks_length x zero b = refl
marks_length x (suc n) b = mark_length x n (marks_written x n b) ∙ marks_length x n b

-- ---- of a longer list, the first 145 bytes alone are read and written

sets_front : (v a d : List ℕ) (at : ℕ) → at + length v ≤ length a → sets (a ++ d) at v ≡ sets a at v ++ d
sets_front [] a d at h = refl
sets_front (x ∷ v) a d at h =
    ap (λ l. sets l (suc at) v) (set-append_left a d at x (omega arith)) ∙ sets_front v (set a at x) d (suc at) (omega (arith, length-set a at x))

module _ (a d : List ℕ) (n : length a ≡ 145) where
  state_front : (j : ℕ) → j < 9 → state_from (a ++ d) (place j) ≡ state_from a (place j)
  state_front j h =
      ap₂ (λ c p. record { c = c; p = p })
      (eight_same (λ k. get_or (a ++ d) (place j + 2 * k) 0) (λ k. get_or a (place j + 2 * k) 0) (λ k l. get_or-append a d 0 (place j + 2 * k) (omega arith)))
      (eight_same (λ k. get_or (a ++ d) (place j + 2 * k + 1) 0) (λ k. get_or a (place j + 2 * k + 1) 0) (λ k l. get_or-append a d 0 (place j + 2 * k + 1) (omega arith)))

  mark_front : (i : ℕ) → i < 8 → mark_from (a ++ d) i ≡ mark_from a i
  unfolding mark_from
  mark_front i h =
      ap₂ (λ f s. pick (bit f i) (Some s) empty) (get_or-append a d 0 0 (omega arith)) (state_front (i + 1) (omega arith))

  pub session_front : session_from (a ++ d) ≡ session_from a
  unfolding session_from
  session_front =
      ap₂ (λ s marks. record { present = s; marks = marks }) (state_front 0 (omega arith)) (eight_same (mark_from (a ++ d)) (mark_from a) mark_front)

stored_front : (o : Option State) (j : ℕ) (a d : List ℕ) → j < 9 → length a ≡ 145 → stored_written o j (a ++ d) ≡ stored_written o j a ++ d
stored_front None j a d h n = refl
stored_front (Some s) j a d h n = sets_front (state_bytes s) a d (place j) (omega (arith, state_length s))

marks_front : (x : Session) (i : ℕ) (a d : List ℕ) → i ≤ 8 → length a ≡ 145 → marks_written x i (a ++ d) ≡ marks_written x i a ++ d
unfolding marks_written mark_written
marks_front x zero a d h n = refl
marks_front x (suc i) a d h n =
    ap (stored_written (mark_in x i) (i + 1)) (marks_front x i a d (omega arith) n)
    ∙ stored_front (mark_in x i) (i + 1) (marks_written x i a) d (omega arith) (marks_length x i a ∙ n)

written_front : (x : Session) (a d : List ℕ) → length a ≡ 145 → session_written x (a ++ d) ≡ session_written x a ++ d
unfolding session_written
written_front x a d n =
    let head = flags x ∷ state_bytes x.present in
    ap (marks_written x 8) (sets_front head a d 0 (omega (arith, state_length x.present)))
    ∙ marks_front x 8 (sets a 0 head) d (omega arith) (length-sets a 0 head ∙ n)

by_front : (r : Result Step Refusal) (x : Session) (a d : List ℕ) → length a ≡ 145 → space_by r x (a ++ d) ≡ space_by r x a ++ d
by_front (Ok Step.Next) x a d n = written_front x a d n
by_front (Ok Step.Missed) x a d n = refl
by_front (Err r) x a d n = refl

pub after_front : (r : Called) (a d : List ℕ) → length a ≡ 145 → space_after r (a ++ d) ≡ space_after r a ++ d
unfolding space_after
after_front r a d n = by_front r.answer r.session a d n
