-- The laws of keys: a state is known by its key. Assumes nothing.
use Rattle.std.proofs.Common.{◌≡◌, ℕ, zero, suc, ◌+◌, ◌*◌, ◌/◌, ◌%◌, ◌<◌, true, false, ◌&&◌, eqb, List, length, get_or, sym, refl, ap, ◌∙◌, add-zero, add_assoc, div-add-mod', arith, ext_get_or, w8, Fits, eq-eqb, eqb-true}
use Rattle.tasks.specs.declared.state.State.{State}
use Rattle.lists.proofs.Bools.{and_left, and_right, clash}
use Rattle.lists.proofs.Fill.{eight_at}
use Rattle.states.specs.declared.keys.Key.{Key}
use Rattle.states.specs.Bytes.{four_at}
use Rattle.states.specs.Bytes.{state_from}
use Rattle.states.specs.Keys.{word_of, key_of, key_from, same_keys}

-- the key of bytes is that of their state
pub key_from_lem : (w : List ℕ) (a : ℕ) → key_from w a ≡ key_of (state_from w a)
unfolding key_of word_of four_at
key_from_lem w a = simp (add_assoc a, add-zero a)

-- ---- keys are compared

pub keys_same : (k l : Key) → same_keys k l ≡ true → k ≡ l
unfolding same_keys
keys_same k l e =
    let abc = and_left ((eqb k.a l.a && eqb k.b l.b) && eqb k.c l.c) (eqb k.d l.d) e in
    let ab = and_left (eqb k.a l.a && eqb k.b l.b) (eqb k.c l.c) abc in
    λ x. record {
      a = eqb-true k.a l.a (and_left (eqb k.a l.a) (eqb k.b l.b) ab) x;
      b = eqb-true k.b l.b (and_right (eqb k.a l.a) (eqb k.b l.b) ab) x;
      c = eqb-true k.c l.c (and_right (eqb k.a l.a && eqb k.b l.b) (eqb k.c l.c) abc) x;
      d = eqb-true k.d l.d (and_right ((eqb k.a l.a && eqb k.b l.b) && eqb k.c l.c) (eqb k.d l.d) e) x;
    }

pub keys_differ : (k l : Key) → same_keys k l ≡ false → k ≡ l → ⊥
unfolding same_keys
keys_differ k l e q = clash (rw (q, eq-eqb l.a l.a refl, eq-eqb l.b l.b refl, eq-eqb l.c l.c refl, eq-eqb l.d l.d refl)) e

-- ---- one state for a key

-- the arrays have eight bytes
pub record Bytes (s : State) : Type 0 where
  pub c_length : length s.c ≡ 8
  pub p_length : length s.p ≡ 8
  pub c_fits : (k : ℕ) → k < 8 → Fits w8 (get_or s.c k 0)
  pub p_fits : (k : ℕ) → k < 8 → Fits w8 (get_or s.p k 0)

pub bytes_from_lem : (w : List ℕ) (a : ℕ) → ((k : ℕ) → Fits w8 (get_or w k 0)) → Bytes (state_from w a)
bytes_from_lem w a fits = record {
  c_length = refl;
  p_length = refl;
  c_fits = λ k b. rw (eight_at 0 (λ j. get_or w (a + 2 * j) 0) k b) (fits (a + 2 * k));
  p_fits = λ k b. rw (eight_at 0 (λ j. get_or w (a + 2 * j + 1) 0) k b) (fits (a + 2 * k + 1));
}

-- what holds of both numbers of each of four pairs holds below 8
by_pairs : (P : ℕ → Type 0) → ((k : ℕ) → k < 4 → P (2 * k) × P (2 * k + 1)) → (k : ℕ) → k < 8 → P k
by_pairs P h k b =
    let e = div-add-mod' k 2 in
    by_rest (k / 2) (k % 2) (omega arith) (omega arith) e
  where
    by_rest : (q r : ℕ) → q < 4 → r < 2 → q * 2 + r ≡ k → P k
    by_rest q zero hq hr e = let z : 2 * q ≡ k = omega arith in rw z at (h q hq).0
    by_rest q (suc zero) hq hr e = let z : 2 * q + 1 ≡ k = omega arith in rw z at (h q hq).1
    by_rest q (suc (suc r)) hq hr e = absurd (omega arith)

-- the tasks 2k and 2k + 1 of two states agree
record Pair (s t : State) (k : ℕ) : Type 0 where
  pub c₀ : get_or s.c (2 * k) 0 ≡ get_or t.c (2 * k) 0
  pub p₀ : get_or s.p (2 * k) 0 ≡ get_or t.p (2 * k) 0
  pub c₁ : get_or s.c (2 * k + 1) 0 ≡ get_or t.c (2 * k + 1) 0
  pub p₁ : get_or s.p (2 * k + 1) 0 ≡ get_or t.p (2 * k + 1) 0

module _ {s t : State} (x : Bytes s) (y : Bytes t) where
  pair : (k : ℕ) → k < 4 → word_of s k ≡ word_of t k → Pair s t k
  unfolding word_of
  pair k b e =
      let a₀ = x.c_fits (2 * k) (omega arith) in
      let a₁ = x.p_fits (2 * k) (omega arith) in
      let a₂ = x.c_fits (2 * k + 1) (omega arith) in
      let b₀ = y.c_fits (2 * k) (omega arith) in
      let b₁ = y.p_fits (2 * k) (omega arith) in
      let b₂ = y.c_fits (2 * k + 1) (omega arith) in
      record { c₀ = omega arith; p₀ = omega arith; c₁ = omega arith; p₁ = omega arith }

  pairs : key_of s ≡ key_of t → (k : ℕ) → k < 4 → Pair s t k
  unfolding key_of
  pairs e zero b = pair 0 b (ap (λ (q : Key). q.a) e)
  pairs e (suc zero) b = pair 1 b (ap (λ (q : Key). q.b) e)
  pairs e (suc (suc zero)) b = pair 2 b (ap (λ (q : Key). q.c) e)
  pairs e (suc (suc (suc zero))) b = pair 3 b (ap (λ (q : Key). q.d) e)
  pairs e (suc (suc (suc (suc k)))) b = absurd (omega arith)

  pub one_state : key_of s ≡ key_of t → s ≡ t
  one_state e = λ i. record {
    c = ext_get_or 0 s.c t.c (x.c_length ∙ sym y.c_length) (λ k b. c_same k (omega (arith, x.c_length))) i;
    p = ext_get_or 0 s.p t.p (x.p_length ∙ sym y.p_length) (λ k b. p_same k (omega (arith, x.p_length))) i;
  }
    where
      c_same : (k : ℕ) → k < 8 → get_or s.c k 0 ≡ get_or t.c k 0
      c_same = by_pairs (λ k. get_or s.c k 0 ≡ get_or t.c k 0) (λ k b. ((pairs e k b).c₀, (pairs e k b).c₁))

      p_same : (k : ℕ) → k < 8 → get_or s.p k 0 ≡ get_or t.p k 0
      p_same = by_pairs (λ k. get_or s.p k 0 ≡ get_or t.p k 0) (λ k b. ((pairs e k b).p₀, (pairs e k b).p₁))
