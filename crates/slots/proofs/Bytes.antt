-- Runs of stores byte by byte, and a state, a number and a mask read back from their bytes. Assumes nothing.
use Prim.Native.Nat.{ℕ, zero, suc, ◌+◌, ◌-◌, ◌*◌, ◌/◌, ◌%◌, ◌≤◌, ◌<◌}
use mathlib.Core.Path.{◌≡◌, refl, sym, ap, ◌∙◌}
use mathlib.Core.Logic.{◌⊎◌}
use mathlib.Core.Logic.◌⊎◌.{inl, inr}
use mathlib.Core.List.{List, [], ◌∷◌, ◌++◌, append_assoc, append-nil}
use native.Mathlib.Omega.{arith}
use native.Mathlib.Nat.{add_assoc, add-zero, div-div-eq-div-mul, div-add-mod', mod-eq_of_lt}
use lib.ListN.{length, get_or, take, drop, set, length-set, length-drop, drop_of_length-le}
use lib.Seq.{sets, sets-eq, length-sets, take_all, drop-drop, get_or-set_same, get_or-set_other}
use Rattle.lists.proofs.Fill.{eight_same, filled_end}
use Rattle.tasks.specs.declared.state.State.{State}
use Rattle.states.specs.Bytes.{four_at, twos, state_from, state_bytes}
use Rattle.slots.specs.Layout.{four_bytes}

-- ---- a run of stores

-- a byte before it or after it stays
pub sets_other : (vs l : List ℕ) (a b : ℕ) → (b < a) ⊎ (a + length vs ≤ b) → get_or (sets l a vs) b 0 ≡ get_or l b 0
sets_other [] l a b h = refl
sets_other (v ∷ vs) l a b (inl h) = sets_other vs (set l a v) (suc a) b (inl (omega arith)) ∙ get_or-set_other l a b v 0 (λ e. omega arith)
sets_other (v ∷ vs) l a b (inr h) = sets_other vs (set l a v) (suc a) b (inr (omega arith)) ∙ get_or-set_other l a b v 0 (λ e. omega arith)

-- the bytes stored
pub sets_here : (vs l : List ℕ) (a k : ℕ) → a + length vs ≤ length l → k < length vs → get_or (sets l a vs) (a + k) 0 ≡ get_or vs k 0
sets_here [] l a k h b = absurd (let z : k < 0 = b in omega arith)
sets_here (v ∷ vs) l a zero h b =
    let e : a + 0 ≡ a = omega arith in
    rw e (sets_other vs (set l a v) (suc a) a (inl (omega arith)) ∙ get_or-set_same l a v 0 (omega arith))
sets_here (v ∷ vs) l a (suc k) h b =
    let e : a + suc k ≡ suc a + k = omega arith in
    rw e (sets_here vs (set l a v) (suc a) k (omega (arith, length-set l a v)) (omega arith))

-- a run of stores at the front
pub front_sets : (vs l : List ℕ) → length vs ≤ length l → sets l 0 vs ≡ vs ++ drop (length vs) l
front_sets vs l h = let z : 0 + length vs ≡ length vs = omega arith in sets-eq vs l 0 (omega arith) ∙ ap (λ k. vs ++ drop k l) z

-- the part of w from a on, which was lent, given back to the whole
abbrev given : List ℕ → ℕ → List ℕ → List ℕ
given w a part = take a w ++ (part ++ drop (length w - a) (drop a w))

-- .. with a run of stores at its front
pub lent_sets :
    (w : List ℕ) (a : ℕ) (vs part : List ℕ) → part ≡ sets (take (length w - a) (drop a w)) 0 vs → a + length vs ≤ length w
    → given w a part ≡ sets w a vs
lent_sets w a vs part e h =
    let l : length (drop a w) ≤ length w - a = simp length-drop (omega arith) in
    let n : length (drop a w) ≡ length w - a = length-drop a w in
    let all : part ≡ sets (drop a w) 0 vs = e ∙ ap (λ (q : List ℕ). sets q 0 vs) (take_all (length w - a) (drop a w) l) in
    let front : sets (drop a w) 0 vs ≡ vs ++ drop (a + length vs) w = front_sets vs (drop a w) (omega arith) ∙ ap (λ (q : List ℕ). vs ++ q) (drop-drop (length vs) a w) in
    let whole : part ≡ vs ++ drop (a + length vs) w = all ∙ front in
    (rw (whole, drop_of_length-le (drop a w) l, append-nil (vs ++ drop (a + length vs) w)))
    ∙ sym (append_assoc (take a w) vs (drop (a + length vs) w))
    ∙ sym (sets-eq vs w a h)

-- three parts lent one after the other
pub lent_three :
    (w : List ℕ) (a b c : ℕ) (us vs ts : List ℕ) {p q r : List ℕ} → p ≡ sets (take (length w - a) (drop a w)) 0 us
    → q ≡ sets (take (length (given w a p) - b) (drop b (given w a p))) 0 vs
    → r ≡ sets (take (length (given (given w a p) b q) - c) (drop c (given (given w a p) b q))) 0 ts
    → a + length us ≤ length w → b + length vs ≤ length w → c + length ts ≤ length w
    → given (given (given w a p) b q) c r ≡ sets (sets (sets w a us) b vs) c ts
lent_three w a b c us vs ts {p} {q} {r} e₁ e₂ e₃ h₁ h₂ h₃ =
    let first = lent_sets w a us p e₁ h₁ in
    let long : length (given w a p) ≡ length w = ap length first ∙ length-sets w a us in
    let second = lent_sets (given w a p) b vs q e₂ (omega arith) in
    let longer : length (given (given w a p) b q) ≡ length w = ap length second ∙ length-sets (given w a p) b vs ∙ long in
    lent_sets (given (given w a p) b q) c ts r e₃ (omega arith)
    ∙ ap (λ (l : List ℕ). sets l c ts) (second ∙ ap (λ (l : List ℕ). sets l b vs) first)

-- ---- a state

pub twos_length : (k : ℕ) (f g : ℕ → ℕ) → length (twos k f g) ≡ 2 * k
twos_length zero f g = refl
twos_length (suc k) f g = let h = twos_length k (λ j. f (suc j)) (λ j. g (suc j)) in omega arith

twos_even : (k : ℕ) (f g : ℕ → ℕ) (j : ℕ) → j < k → get_or (twos k f g) (2 * j) 0 ≡ f j
twos_even zero f g j h = absurd (let z : j < 0 = h in omega arith)
twos_even (suc k) f g zero h = refl
twos_even (suc k) f g (suc j) h = let e : 2 * suc j ≡ suc (suc (2 * j)) = omega arith in rw e (twos_even k (λ i. f (suc i)) (λ i. g (suc i)) j (omega arith))

twos_odd : (k : ℕ) (f g : ℕ → ℕ) (j : ℕ) → j < k → get_or (twos k f g) (2 * j + 1) 0 ≡ g j
twos_odd zero f g j h = absurd (let z : j < 0 = h in omega arith)
twos_odd (suc k) f g zero h = refl
twos_odd (suc k) f g (suc j) h = let e : 2 * suc j + 1 ≡ suc (suc (2 * j + 1)) = omega arith in rw e (twos_odd k (λ i. f (suc i)) (λ i. g (suc i)) j (omega arith))

pub state_length : (s : State) → length (state_bytes s) ≡ 16
unfolding state_bytes
state_length s = twos_length 8 (λ k. get_or s.c k 0) (λ k. get_or s.p k 0)

-- sixteen bytes of w from a on that are those of w' from a' on hold the same state
pub state_same : (w w' : List ℕ) (a a' : ℕ) → ((k : ℕ) → k < 16 → get_or w (a + k) 0 ≡ get_or w' (a' + k) 0) → state_from w a ≡ state_from w' a'
state_same w w' a a' h = λ x. record {
  c = eight_same (λ k. get_or w (a + 2 * k) 0) (λ k. get_or w' (a' + 2 * k) 0) (λ k b. h (2 * k) (omega arith)) x;
  p = eight_same (λ k. get_or w (a + 2 * k + 1) 0) (λ k. get_or w' (a' + 2 * k + 1) 0) (λ k b. rw (add_assoc a (2 * k) 1, add_assoc a' (2 * k) 1) (h (2 * k + 1) (omega arith))) x;
}

-- a state is read from its bytes
pub state_read : (s : State) (w : List ℕ) (a : ℕ) → length s.c ≡ 8 → length s.p ≡ 8 → ((k : ℕ) → k < 16 → get_or w (a + k) 0 ≡ get_or (state_bytes s) k 0) → state_from w a ≡ s
unfolding state_bytes
state_read s w a hc hp h =
    let f : ℕ → ℕ = λ j. get_or s.c j 0 in
    let g : ℕ → ℕ = λ j. get_or s.p j 0 in
    let c-filled = filled_end {d = 0} {l = s.c} (record { len = hc; done = λ k b. sym (h (2 * k) (omega arith) ∙ twos_even 8 f g k b) }) (omega arith) in
    let p-filled = filled_end {d = 0} {l = s.p} (record { len = hp; done = λ k b. sym (ap (λ j. get_or w j 0) (add_assoc a (2 * k) 1) ∙ h (2 * k + 1) (omega arith) ∙ twos_odd 8 f g k b) }) (omega arith) in
    sym (λ x. record { c = c-filled x; p = p-filled x })

-- ---- a number in four bytes

pub four_length : (x : ℕ) → length (four_bytes x) ≡ 4
unfolding four_bytes
four_length x = refl

pub four_same : (w w' : List ℕ) (a a' : ℕ) → ((k : ℕ) → k < 4 → get_or w (a + k) 0 ≡ get_or w' (a' + k) 0) → four_at w a ≡ four_at w' a'
unfolding four_at
four_same w w' a a' h =
    let e : get_or w a 0 ≡ get_or w' a' 0 = (rw (add-zero a, add-zero a') at (h 0 (omega arith))) in
    rw (e, h 1 (omega arith), h 2 (omega arith), h 3 (omega arith))

joins : (x r₀ q₁ r₁ q₂ r₂ q₃ : ℕ) → q₁ * 256 + r₀ ≡ x → q₂ * 256 + r₁ ≡ q₁ → q₃ * 256 + r₂ ≡ q₂ → r₀ + 256 * r₁ + 65536 * r₂ + 16777216 * q₃ ≡ x
joins x r₀ q₁ r₁ q₂ r₂ q₃ a b c = omega arith

-- a number of 32 bits is its four bytes
four_bytes_lem : (x : ℕ) → x < 4294967296 → x % 256 + 256 * (x / 256 % 256) + 65536 * (x / 65536 % 256) + 16777216 * (x / 16777216 % 256) ≡ x
four_bytes_lem x h =
    let e₂ : x / 256 / 256 ≡ x / 65536 = div-div-eq-div-mul x 256 256 in
    let e₃ : x / 65536 / 256 ≡ x / 16777216 = div-div-eq-div-mul x 65536 256 in
    let l : x / 16777216 < 256 = omega arith in
    rw (mod-eq_of_lt l)
    (joins x (x % 256) (x / 256) (x / 256 % 256) (x / 65536) (x / 65536 % 256) (x / 16777216)
    (div-add-mod' x 256) (rw e₂ at (div-add-mod' (x / 256) 256)) (rw e₃ at (div-add-mod' (x / 65536) 256)))

-- a number is read from its bytes
pub four_read : (x : ℕ) (w : List ℕ) (a : ℕ) → x < 4294967296 → ((k : ℕ) → k < 4 → get_or w (a + k) 0 ≡ get_or (four_bytes x) k 0) → four_at w a ≡ x
unfolding four_at four_bytes
four_read x w a l h =
    let e : get_or w a 0 ≡ x % 256 = (rw (add-zero a) at (h 0 (omega arith))) in
    rw (e, h 1 (omega arith), h 2 (omega arith), h 3 (omega arith)) (four_bytes_lem x l)
