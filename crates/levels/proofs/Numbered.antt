-- Numbered states: one more at the end, the pigeonhole principle, and that the number of the states with a property is one number.
use mathlib.Core.Path.{◌≡◌, refl, sym, ◌∙◌, ap}
use mathlib.Core.Logic.{◌⊎◌, ◌≢◌}
use mathlib.Core.Logic.◌⊎◌.{inl, inr}
use Prim.Native.Nat.{ℕ, zero, suc, ◌≤◌, ◌<◌, zero-le, suc-le-suc}
use native.Mathlib.Omega.{arith}
use native.Mathlib.Nat.{le_antisymm}
use native.Mathlib.Decide.{ℕ_discrete, dec_lt}
use Rattle.levels.specs.Verdict.{Distinct, Holds, Numbered}

-- below n + 1 is below n, or n
pub split_last : {i n : ℕ} → i < suc n → (i < n) ⊎ (i ≡ n)
split_last {i} {n} h = go (ℕ_discrete i n)
  where
    go : Dec (i ≡ n) → (i < n) ⊎ (i ≡ n)
    go (yes e) = inr e
    go (no ne) = inl (omega arith)

-- what is among the first n stays there while they stay
pub holds_more : {S : Type 0} {at at' : ℕ → S} {n n' : ℕ} {s : S} → n ≤ n' → ((i : ℕ) → i < n → at' i ≡ at i) → Holds at n s → Holds at' n' s
holds_more le same h = record { place = h.place; below = (let l = h.below in omega arith); same = same h.place h.below ∙ h.same }

-- a new state in place n is different from the n before it
pub push_distinct : {S : Type 0} {at at' : ℕ → S} {n : ℕ} → Distinct at n → ((i : ℕ) → i < n → at' i ≡ at i) → (Holds at n (at' n) → ⊥) → Distinct at' (suc n)
push_distinct {S} {at} {at'} {n} apart same absent i j hi hj q = go (split_last hi) (split_last hj)
  where
    go : (i < n) ⊎ (i ≡ n) → (j < n) ⊎ (j ≡ n) → i ≡ j
    go (inl a) (inl b) = apart i j a b (sym (same i a) ∙ q ∙ same j b)
    go (inl a) (inr b) = absurd (absent (record { place = i; below = a; same = sym (same i a) ∙ q ∙ ap at' b }))
    go (inr a) (inl b) = absurd (absent (record { place = j; below = b; same = sym (same j b) ∙ sym q ∙ ap at' a }))
    go (inr a) (inr b) = omega arith

-- s in place n, and elsewhere what was there
put : {S : Type 0} → (ℕ → S) → S → {j n : ℕ} → Dec (j ≡ n) → S
put at s (yes z) = s
put at s {j} (no nz) = at j

pub extend : {S : Type 0} → (ℕ → S) → ℕ → S → ℕ → S
extend at n s j = put at s (ℕ_discrete j n)

module _ {S : Type 0} (at : ℕ → S) (n : ℕ) (s : S) where
  pub extend_low : (j : ℕ) → j < n → extend at n s j ≡ at j
  unfolding extend put
  extend_low j l = go (ℕ_discrete j n)
    where
      go : (q : Dec (j ≡ n)) → put at s q ≡ at j
      go (yes z) = absurd (omega arith)
      go (no nz) = refl

  pub extend_last : extend at n s n ≡ s
  unfolding extend put
  extend_last = go (ℕ_discrete n n)
    where
      go : (q : Dec (n ≡ n)) → put at s q ≡ s
      go (yes z) = refl
      go (no nz) = absurd (nz refl)

-- y where x is m, else x
abbrev instead : {m x : ℕ} → ℕ → Dec (x ≡ m) → ℕ
instead {m} {x} y (yes e) = y
instead {m} {x} y (no ne) = x

-- the pigeonhole principle: n different numbers below m are at most m
pub pigeon : (n m : ℕ) (f : ℕ → ℕ) → ((i : ℕ) → i < n → f i < m) → Distinct f n → n ≤ m
pigeon zero m f into apart = zero-le
pigeon (suc n) zero f into apart = absurd (let h : f 0 < 0 = into 0 (omega arith) in omega arith)
pigeon (suc n) (suc m) f into apart = suc-le-suc (pigeon n m g g_into g_apart)
  where
    g : ℕ → ℕ
    g i = instead (f n) (ℕ_discrete (f i) m)

    g_into : (i : ℕ) → i < n → g i < m
    g_into i h = go (ℕ_discrete (f i) m)
      where
        go : (d : Dec (f i ≡ m)) → instead (f n) d < m
        go (yes e) =
            let l : f n < suc m = into n (omega arith) in
            let ne : f n ≢ m = λ e'. let z : i ≡ n = apart i n (omega arith) (omega arith) (e ∙ sym e') in omega arith in
            omega arith
        go (no ne) = let l : f i < suc m = into i (omega arith) in omega arith

    g_apart : Distinct g n
    g_apart i j hi hj = go (ℕ_discrete (f i) m) (ℕ_discrete (f j) m)
      where
        go : (d : Dec (f i ≡ m)) (d' : Dec (f j ≡ m)) → instead (f n) d ≡ instead (f n) d' → i ≡ j
        go (yes e) (yes e') q = apart i j (omega arith) (omega arith) (e ∙ sym e')
        go (yes e) (no ne') q = absurd (let z : n ≡ j = apart n j (omega arith) (omega arith) q in omega arith)
        go (no ne) (yes e') q = absurd (let z : i ≡ n = apart i n (omega arith) (omega arith) q in omega arith)
        go (no ne) (no ne') q = apart i j (omega arith) (omega arith) q

-- n different states that have a property are no more than the number of all that have it
module _ {S : Type 0} {P : S → Type 0} {k : ℕ} (num : Numbered P k) (at : ℕ → S) (n : ℕ) (apart : Distinct at n) (each : (i : ℕ) → i < n → P (at i)) where
  spot : (i : ℕ) → Dec (i < n) → ℕ
  spot i (yes h) = (num.all (at i) (each i h)).place
  spot i (no nh) = 0

  spot_good : (i : ℕ) → i < n → (d : Dec (i < n)) → (spot i d < k) × (num.at (spot i d) ≡ at i)
  unfolding spot
  spot_good i h (yes l) = ((num.all (at i) (each i l)).below, (num.all (at i) (each i l)).same)
  spot_good i h (no nl) = absurd (nl h)

  pub no_more : n ≤ k
  no_more = pigeon n k (λ i. spot i (dec_lt i n))
      (λ i h. (spot_good i h (dec_lt i n)).0)
      (λ i j hi hj q. apart i j hi hj (sym (spot_good i hi (dec_lt i n)).1 ∙ ap num.at q ∙ (spot_good j hj (dec_lt j n)).1))

-- the number of the states that have a property is one number: N(d) is, and so is the count of all
pub numbered_unique : {S : Type 0} {P : S → Type 0} {n k : ℕ} → Numbered P n → Numbered P k → n ≡ k
numbered_unique {S} {P} {n} {k} a b = le_antisymm (no_more b a.at n a.distinct a.each) (no_more a b.at k b.distinct b.each)
