-- Strict total orders: by task number, by a signed number first, how many go before, and the last of those that pass a test. Assumes
-- nothing.
use Prim.Native.Nat.{ℕ, zero, suc, ◌<◌}
use mathlib.Core.Path.{◌≡◌, refl, ap}
use mathlib.Core.Bool.{Bool, true, false, not, ◌&&◌, ◌||◌}
use mathlib.Core.Logic.{◌⊎◌, inl, inr, ⊎_elim}
use native.Mathlib.Omega.{arith}
use native.Mathlib.Decide.{ℕ_discrete}
use lib.Dec.{ltb}
use lib.IntN.{ℤ, pos, negsuc}
use lib.Signed.{lt_z}
use borrow.Author.Tests.{ltb-true, ltb-false, lt-ltb, le-ltb}
use Rattle.lists.specs.Lists.{count}
use Rattle.lists.proofs.Bools.{by_bool, clash, and_left, and_right, both, or_left, or_right, or_cases, not_yes, not_no}
use Rattle.lists.proofs.Counts.{count_less}

-- ---- a strict total order

pub record Order (B : ℕ → ℕ → Bool) : Type 0 where
  pub trans : (i j k : ℕ) → B i j ≡ true → B j k ≡ true → B i k ≡ true
  pub total : (i j : ℕ) → (i ≡ j → ⊥) → B i j ≡ false → B j i ≡ true
  pub irrefl : (i : ℕ) → B i i ≡ false

-- the order of the task numbers
pub by_number : Order ltb
by_number =
    record {
      trans = λ i j k e h. lt-ltb i k (omega (arith, ltb-true i j e, ltb-true j k h));
      total = λ i j d e. lt-ltb j i (omega (arith, ltb-false i j e));
      irrefl = λ i. le-ltb i i (omega arith);
    }

lt_z_trans : (a b c : ℤ) → lt_z a b ≡ true → lt_z b c ≡ true → lt_z a c ≡ true
lt_z_trans (pos a) (pos b) (pos c) e h = by_number.trans a b c e h
lt_z_trans (pos a) (pos b) (negsuc c) e h = h
lt_z_trans (pos a) (negsuc b) c e h = clash e refl
lt_z_trans (negsuc a) (pos b) (pos c) e h = refl
lt_z_trans (negsuc a) (pos b) (negsuc c) e h = clash h refl
lt_z_trans (negsuc a) (negsuc b) (pos c) e h = refl
lt_z_trans (negsuc a) (negsuc b) (negsuc c) e h = by_number.trans c b a h e

lt_z_same : (a b : ℤ) → lt_z a b ≡ false → lt_z b a ≡ false → a ≡ b
lt_z_same (pos a) (pos b) e h = ap pos (omega (arith, ltb-false a b e, ltb-false b a h))
lt_z_same (pos a) (negsuc b) e h = clash refl h
lt_z_same (negsuc a) (pos b) e h = clash refl e
lt_z_same (negsuc a) (negsuc b) e h = ap negsuc (omega (arith, ltb-false b a e, ltb-false a b h))

lt_z_irrefl : (a : ℤ) → lt_z a a ≡ false
lt_z_irrefl (pos a) = le-ltb a a (omega arith)
lt_z_irrefl (negsuc a) = le-ltb a a (omega arith)

-- ---- by a number first, and in another order among equal ones

-- L compares by a number of each, which others may have too
pub record Ranked (L : ℕ → ℕ → Bool) : Type 0 where
  pub trans : (i j k : ℕ) → L i j ≡ true → L j k ≡ true → L i k ≡ true
  pub irrefl : (i : ℕ) → L i i ≡ false
  pub left : (i j k : ℕ) → L i j ≡ false → L j i ≡ false → L j k ≡ true → L i k ≡ true
  pub right : (i j k : ℕ) → L j k ≡ false → L k j ≡ false → L i j ≡ true → L i k ≡ true

-- the smaller number first
pub upward : (key : ℕ → ℤ) → Ranked (λ i j. lt_z (key i) (key j))
upward key =
    record {
      trans = λ i j k. lt_z_trans (key i) (key j) (key k);
      irrefl = λ i. lt_z_irrefl (key i);
      left = λ i j k e h l. rw (lt_z_same (key i) (key j) e h) l;
      right = λ i j k e h l. rw (lt_z_same (key k) (key j) h e) l;
    }

-- the greater number first
pub downward : (key : ℕ → ℤ) → Ranked (λ i j. lt_z (key j) (key i))
downward key =
    record {
      trans = λ i j k e h. lt_z_trans (key k) (key j) (key i) h e;
      irrefl = λ i. lt_z_irrefl (key i);
      left = λ i j k e h l. rw (lt_z_same (key i) (key j) h e) l;
      right = λ i j k e h l. rw (lt_z_same (key k) (key j) e h) l;
    }

module _ (L B : ℕ → ℕ → Bool) (r : Ranked L) (o : Order B) where
  first : ℕ → ℕ → Bool
  first i j = L i j || (not (L j i) && B i j)

  first_less : (i j : ℕ) → L i j ≡ true → first i j ≡ true
  unfolding first
  first_less i j e = or_left (not (L j i) && B i j) e

  first_equal : (i j : ℕ) → L j i ≡ false → B i j ≡ true → first i j ≡ true
  unfolding first
  first_equal i j e h = or_right (L i j) (both (not_yes e) h)

  first_cases : {X : Type 0} (i j : ℕ) → first i j ≡ true → (L i j ≡ true → X) → (L i j ≡ false → L j i ≡ false → B i j ≡ true → X) → X
  unfolding first
  first_cases i j e f g =
      or_cases (L i j) (not (L j i) && B i j) e f
      (λ h k. g h (not_no (L j i) (and_left (not (L j i)) (B i j) k)) (and_right (not (L j i)) (B i j) k))

  first_trans : (i j k : ℕ) → first i j ≡ true → first j k ≡ true → first i k ≡ true
  first_trans i j k e h =
      first_cases i j e
      (λ l. first_cases j k h (λ m. first_less i k (r.trans i j k l m)) (λ m n b. first_less i k (r.right i j k m n l)))
      (λ l n b.
      first_cases j k h
      (λ m. first_less i k (r.left i j k l n m))
      (λ m q d.
      first_equal i k
      (by_bool (L k i) (λ z. clash (r.right k i j l n z) q) (λ z. z))
      (o.trans i j k b d)))

  first_total : (i j : ℕ) → (i ≡ j → ⊥) → first i j ≡ false → first j i ≡ true
  first_total i j d e =
      by_bool (L j i) (λ h. first_less j i h)
      (λ h. by_bool (L i j) (λ k. clash (first_less i j k) e)
      (λ k. by_bool (B i j) (λ b. clash (first_equal i j h b) e) (λ b. first_equal j i k (o.total i j d b))))

  -- LAW: which is a strict total order again
  pub by_rank : Order (λ i j. L i j || (not (L j i) && B i j))
  unfolding first
  by_rank =
      record { trans = first_trans; total = first_total; irrefl = λ i. rw (r.irrefl i, o.irrefl i) }

-- ---- how many go before

module _ (B : ℕ → ℕ → Bool) (o : Order B) where
  -- LAW: what goes before another has fewer before it
  pub fewer_before : (n j i : ℕ) → j < n → B j i ≡ true → count n (λ k. B k j) < count n (λ k. B k i)
  fewer_before n j i h e = count_less (λ k. B k j) (λ k. B k i) j n h (λ k l b. o.trans k j i b e) (o.irrefl j) e

-- ---- the last of those that pass a test

pub record Last (B : ℕ → ℕ → Bool) (S : ℕ → Bool) (n x : ℕ) : Type 0 where
  pub below : x < n
  pub holds : S x ≡ true
  pub after : (k : ℕ) → k < n → (k ≡ x → ⊥) → S k ≡ true → B k x ≡ true

module _ (B : ℕ → ℕ → Bool) (o : Order B) (S : ℕ → Bool) where
  -- one more number, that does not pass
  skip : {n x : ℕ} → S n ≡ false → Last B S n x → Last B S (suc n) x
  skip {n} {x} e l =
      record {
        below = omega arith;
        holds = l.holds;
        after = λ k h d s. elim (ℕ_discrete k n) [ yes q ↦ clash s (rw q e) | no q ↦ l.after k (omega arith) d s ];
      }

  -- one that passes, before the last
  keep : {n x : ℕ} → B n x ≡ true → Last B S n x → Last B S (suc n) x
  keep {n} {x} b l =
      record {
        below = omega arith;
        holds = l.holds;
        after = λ k h d s. elim (ℕ_discrete k n) [ yes q ↦ rw q b | no q ↦ l.after k (omega arith) d s ];
      }

  -- one that passes, after the last
  move : {n x : ℕ} → S n ≡ true → B x n ≡ true → Last B S n x → Last B S (suc n) n
  move {n} {x} e b l =
      record {
        below = omega arith;
        holds = e;
        after = λ k h d s.
            elim (ℕ_discrete k x) [ yes q ↦ rw q b | no q ↦ o.trans k x n (l.after k (omega arith) q s) b ];
      }

  pub last : (n : ℕ) → ((k : ℕ) → k < n → S k ≡ false) ⊎ ((x : ℕ) × Last B S n x)
  last zero = inl (λ k h. absurd (omega arith))
  last (suc n) =
      by_bool (S n)
      (λ e. ⊎_elim
      (λ none. inr (n, record { below = omega arith; holds = e; after = λ k h d s. clash s (none k (omega arith)) }))
      (λ l. by_bool (B n l.0) (λ b. inr (l.0, keep b l.1))
      (λ b. inr (n, move e (o.total n l.0 (λ q. omega (arith, l.1.below)) b) l.1)))
      (last n))
      (λ e. ⊎_elim
      (λ none. inl (λ k h. elim (ℕ_discrete k n) [ yes q ↦ rw q e | no q ↦ none k (omega arith) ]))
      (λ l. inr (l.0, skip e l.1))
      (last n))
