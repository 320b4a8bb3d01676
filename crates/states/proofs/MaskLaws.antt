-- The walk through the submasks of a byte visits each of them once, in increasing order; they are the legal masks. Assumes nothing.
use Rattle.std.proofs.Common.{◌≡◌, ℕ, zero, suc, ◌+◌, ◌-◌, ◌<◌, ◌≤◌, Bool, true, false, not, ◌||◌, eqb, ◌⊎◌, sym, refl, ap, ◌∙◌, arith, eq-eqb, ne_eqb, eqb-true}
use mathlib.Core.Logic.◌⊎◌.{inl, inr}
use native.Mathlib.Decide.{ℕ_discrete, dec_lt}
use Rattle.lists.specs.Lists.{pick}
use Rattle.tasks.specs.Tick.{bit, illegal}
use Rattle.tasks.specs.Masks.{free_mask}
use Rattle.tasks.specs.declared.state.State.{State}
use Rattle.tasks.specs.declared.table.Table.{Table}
use Rattle.lists.proofs.Bools.{clash, and_left, and_right, both}
use Rattle.tasks.proofs.Legal.{legal_bit, bits_legal}
use Rattle.tasks.proofs.Free.{free_bit, may, may_be}
use Rattle.states.specs.Masks.{next_mask, follows, place, AtMask, Stepped}
use Rattle.states.specs.declared.masks.Masks.{Masks}
use Rattle.states.proofs.MaskTest.{all, submask, same, checks, every}

same_is : (a b : Bool) → same a b ≡ true → a ≡ b
same_is true b e = sym e
same_is false true e = e
same_is false false e = refl

pub all_at : (n : ℕ) (p : ℕ → Bool) → all n p ≡ true → (i : ℕ) → i < n → p i ≡ true
unfolding all
all_at zero p e i h = absurd (omega arith)
all_at (suc n) p e i h =
    elim (ℕ_discrete i n) [
      | yes q ↦ ap p q ∙ and_left (p n) (all n p) e
      | no q ↦ all_at n p (and_right (p n) (all n p) e) i (omega arith)
    ]

all_of : (n : ℕ) (p : ℕ → Bool) → ((i : ℕ) → i < n → p i ≡ true) → all n p ≡ true
unfolding all
all_of zero p f = refl
all_of (suc n) p f = both (f n (omega arith)) (all_of n p (λ i h. f i (omega arith)))

-- b is the first submask from a on, 256 where there is none
pub record First (free a b : ℕ) : Type 0 where
  pub up : a ≤ b
  pub most : b ≤ 256
  pub gap : (y : ℕ) → a ≤ y → y < b → submask free y ≡ false
  pub is : b < 256 → submask free b ≡ true

module _ (free : ℕ) where
  -- the test at x says that the number due is the first submask from x on
  test_first : (k x due : ℕ) → x + k ≡ 256 → checks k free x due ≡ true → First free x due
  unfolding checks
  test_first zero x due e h =
      let q : due ≡ 256 = eqb-true due 256 h in
      record { up = omega arith; most = omega arith; gap = λ y l m. absurd (omega arith); is = λ b. absurd (omega arith) }
  test_first (suc k) x due e h =
      let rest = checks k free (suc x) (pick (eqb x due) (follows free x) due) in
      let here : submask free x ≡ eqb x due =
      same_is (submask free x) (eqb x due) (and_left (same (submask free x) (eqb x due)) rest h) in
      elim (ℕ_discrete x due) [
        | yes q ↦
            record {
              up = omega arith;
              most = omega arith;
              gap = λ y l m. absurd (omega arith);
              is = λ b. ap (submask free) (sym q) ∙ here ∙ eq-eqb x due q;
            }
        | no q ↦
            let off : eqb x due ≡ false = ne_eqb x due q in
            let f : First free (suc x) due =
            test_first k (suc x) due (omega arith) (rw off at (and_right (same (submask free x) (eqb x due)) rest h)) in
            record {
              up = omega (arith, f.up);
              most = f.most;
              gap = λ y l m. elim (ℕ_discrete x y) [ yes r ↦ ap (submask free) (sym r) ∙ here ∙ off | no r ↦ f.gap y (omega arith) m ];
              is = f.is;
            }
      ]

  -- and for each submask from x on, that `follows` is the first after it
  test_next :
      (k x due : ℕ) → x + k ≡ 256 → checks k free x due ≡ true
      → (m : ℕ) → x ≤ m → m < 256 → submask free m ≡ true → First free (suc m) (follows free m)
  unfolding checks
  test_next zero x due e h m l b s = absurd (omega arith)
  test_next (suc k) x due e h m l b s =
      let rest = checks k free (suc x) (pick (eqb x due) (follows free x) due) in
      let here : submask free x ≡ eqb x due =
      same_is (submask free x) (eqb x due) (and_left (same (submask free x) (eqb x due)) rest h) in
      let more : rest ≡ true = and_right (same (submask free x) (eqb x due)) rest h in
      elim (ℕ_discrete x m) [
        | yes q ↦
            let on : eqb x due ≡ true = sym here ∙ ap (submask free) q ∙ s in
            rw (sym q) (test_first k (suc x) (follows free x) (omega arith) (rw on at more))
        | no q ↦ test_next k (suc x) (pick (eqb x due) (follows free x) due) (omega arith) more m (omega arith) b s
      ]

-- after a submask m, `follows free m` is the next one; 0 is the first
pub next_submask : (free m : ℕ) → free < 256 → m < 256 → submask free m ≡ true → First free (suc m) (follows free m)
next_submask free m f b s = test_next free 256 0 0 refl (all_at 256 (λ x. checks 256 x 0 0) every free f) m (omega arith) b s

pub no_bits : (free : ℕ) → free < 256 → submask free 0 ≡ true
no_bits free f = (test_first free 256 0 0 refl (all_at 256 (λ x. checks 256 x 0 0) every free f)).is (omega arith)

-- a submask before the one that follows m is before m, or m
pub passed : {free m : ℕ} → free < 256 → m < 256 → submask free m ≡ true → (q : ℕ) → q < follows free m → submask free q ≡ true → (q < m) ⊎ (q ≡ m)
passed {free} {m} f b s q h e = go (dec_lt q m) (ℕ_discrete q m)
  where
    go : Dec (q < m) → Dec (q ≡ m) → (q < m) ⊎ (q ≡ m)
    go (yes l) d = inl l
    go (no l) (yes z) = inr z
    go (no l) (no z) = clash e ((next_submask free m f b s).gap q (omega arith) h)

-- ---- a walk through the submasks in increasing order

-- it stands at m, and those before it have the property Q
pub record Walked (Q : ℕ → Type 0) (free m : ℕ) : Type 0 where
  pub most : m ≤ 256
  pub is : m < 256 → submask free m ≡ true
  pub each : (q : ℕ) → q < m → submask free q ≡ true → Q q

module _ (Q : ℕ → Type 0) {free : ℕ} (small : free < 256) where
  pub walked_start : Walked Q free 0
  walked_start = record { most = omega arith; is = λ h. no_bits free small; each = λ q h e. absurd (omega arith) }

  pub walked_next : {m : ℕ} → Walked Q free m → m < 256 → Q m → Walked Q free (follows free m)
  walked_next {m} x h e =
      let f = next_submask free m small h (x.is h) in
      record {
        most = f.most;
        is = f.is;
        each = λ q l k. go q k (passed small h (x.is h) q l k);
      }
    where
      go : (q : ℕ) → submask free q ≡ true → (q < m) ⊎ (q ≡ m) → Q q
      go q k (inl l) = x.each q l k
      go q k (inr z) = rw z e

-- ---- the walk as an iterator

module _ {walk walk' : Masks} {m : ℕ} (x : AtMask walk) (y : Stepped walk walk' m) where
  -- the mask that it gives is a submask
  pub walk_at : submask walk.free m ≡ true
  walk_at = rw y.here at (x.is (rw y.here y.small))

  -- it goes up, to another mask or to the end
  pub walk_up : AtMask walk' × (256 - place walk'.next < 256 - place walk.next)
  walk_up =
      let g = next_submask walk.free m x.small y.small walk_at in
      (record { small = rw y.free x.small; most = rw y.next g.most; is = rw (y.free, y.next) g.is }, rw (y.next, y.here) (omega (arith, g.up, g.most)))

  pub walk_next : (Q : ℕ → Type 0) → Walked Q walk.free (place walk.next) → Q m → Walked Q walk'.free (place walk'.next)
  walk_next Q w q = rw (y.free, y.next) (walked_next Q x.small (rw y.here at w) y.small q)

pub walk_start : (Q : ℕ → Type 0) {walk : Masks} → AtMask walk → place walk.next ≡ 0 → Walked Q walk.free (place walk.next)
walk_start Q x e = rw e (walked_start Q x.small)

-- the two cases of `follows`
pub follows_end : (free m : ℕ) → next_mask free m ≡ 0 → 256 ≡ follows free m
unfolding follows
follows_end free m e = rw (eq-eqb (next_mask free m) 0 e)

pub follows_on : (free m : ℕ) {r : ℕ} → r ≡ next_mask free m → (r ≡ 0 → ⊥) → r ≡ follows free m
unfolding follows
follows_on free m {r} e h = rw (← e, ne_eqb r 0 h)

-- ---- the submasks of the releasable tasks are the legal masks

or_not : (a b : Bool) → (a ≡ true → b ≡ true) → not a || b ≡ true
or_not true b f = f refl
or_not false b f = refl

not_or : (a b : Bool) → not a || b ≡ true → a ≡ true → b ≡ true
not_or true b e h = e
not_or false b e h = clash h refl

module _ (t : Table) (s : State) where
  -- LAW: a submask of the releasable tasks' mask is legal
  pub submask_legal : (m : ℕ) → submask (free_mask t s) m ≡ true → illegal t s m ≡ false
  unfolding submask
  submask_legal m e =
      bits_legal t s m
      (λ i h b. may_be t s i (sym (free_bit t s i h) ∙ not_or (bit m i) (bit (free_mask t s) i) (all_at 8 (λ i. not (bit m i) || bit (free_mask t s) i) e i h) b))

  -- LAW: and a legal mask is one
  pub legal_submask : (m : ℕ) → illegal t s m ≡ false → submask (free_mask t s) m ≡ true
  unfolding submask
  legal_submask m e =
      all_of 8 (λ i. not (bit m i) || bit (free_mask t s) i)
      (λ i h. or_not (bit m i) (bit (free_mask t s) i) (λ b. free_bit t s i h ∙ may t s i (legal_bit t s m i h e b)))
