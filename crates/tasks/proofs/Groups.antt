-- Sheet numbers, for group lists of any length: the value of a number's groups is the number, and the groups of a canonical
-- list's value are the list; what is read off a number's bytes is the number, and the bytes of what is read are those read.
-- Assumes nothing.
use Prim.Native.Nat.{ℕ, zero, suc, ◌+◌, ◌-◌, ◌*◌, ◌/◌, ◌%◌, ◌^◌, ◌≤◌, ◌<◌}
use mathlib.Core.Path.{◌≡◌, refl, sym, ap, ap₂, ◌∙◌}
use mathlib.Core.List.{List, [], ◌∷◌, ◌++◌}
use native.Mathlib.Omega.{arith}
use native.Mathlib.Numerals.{add-one}
use native.Mathlib.Nat.{div-lt_iff_lt-mul, pow-suc}
use lib.Dec.{ltb}
use lib.ListN.{length, get_or, drop}
use lib.Seq.{drop-cons}
use borrow.Author.Tests.{lt-ltb, le-ltb, ltb-true, ltb-false}
use Rattle.std.specs.Prelude.{Ok, Err}
use Rattle.tasks.specs.declared.refusal.Refusal.{Refusal}
use Rattle.tasks.specs.Number.{Read, value, groups_in, groups, Canonical, bytes_of, number_bytes, above, number_in, number_at}
use Rattle.tasks.specs.Number.Canonical.{alone, before}
use Rattle.lists.proofs.Bools.{by_bool}

-- ---- the groups of a number

groups_low : (k x : ℕ) → x < 128 → groups_in k x ≡ x ∷ []
unfolding groups_in
groups_low zero x h = refl
groups_low (suc k) x h = rw (lt-ltb x 128 h)

groups_high : (k x : ℕ) → 128 ≤ x → groups_in (suc k) x ≡ x % 128 ∷ groups_in k (x / 128)
unfolding groups_in
groups_high k x h = rw (le-ltb x 128 h)

-- by the number's own size: a single group, or a group and those of the rest
by_size : {X : Type 0} (x : ℕ) → (x < 128 → X) → (128 ≤ x → X) → X
by_size x f g = by_bool (ltb x 128) (λ e. f (ltb-true x 128 e)) (λ e. g (ltb-false x 128 e))

value_in : (k x : ℕ) → x ≤ k → value (groups_in k x) ≡ x
unfolding value
value_in zero x h = rw (groups_low zero x (omega arith)) (omega arith)
value_in (suc k) x h =
    by_size x
    (λ b. rw (groups_low (suc k) x b) (omega arith))
    (λ b. rw (groups_high k x b, value_in k (x / 128) (omega arith)) (omega arith))

canonical_in : (k x least : ℕ) → x ≤ k → least ≤ x → Canonical least (groups_in k x)
canonical_in zero x least h l = rw (groups_low zero x (omega arith)) (alone l (omega arith))
canonical_in (suc k) x least h l =
    by_size x
    (λ b. rw (groups_low (suc k) x b) (alone l b))
    (λ b. rw (groups_high k x b) (before {g = x % 128} (omega arith) (canonical_in k (x / 128) 1 (omega arith) (omega arith))))

-- the value of a number's groups is the number
pub value_groups : (x : ℕ) → value (groups x) ≡ x
unfolding groups
value_groups x = value_in x x (omega arith)

-- a number's groups are canonical
pub groups_canonical : (x : ℕ) → Canonical 0 (groups x)
unfolding groups
groups_canonical x = canonical_in x x 0 (omega arith) (omega arith)

least_value : {least : ℕ} {gs : List ℕ} → Canonical least gs → least ≤ 1 → least ≤ value gs
unfolding value
least_value (alone l b) h = omega arith
least_value (before b c) h = omega (arith, least_value c (omega arith))

groups_value_in : {least : ℕ} {gs : List ℕ} → Canonical least gs → (k : ℕ) → value gs ≤ k → groups_in k (value gs) ≡ gs
unfolding value
groups_value_in {least} {gs} (alone {g = g} l b) k h =
    let e : g + 128 * 0 ≡ g = omega arith in rw e (groups_low k g b)
groups_value_in (before {g = g} {gs = gs} b c) zero h = absurd (omega (arith, least_value c (omega arith)))
groups_value_in (before {g = g} {gs = gs} b c) (suc k) h =
    let low : (g + 128 * value gs) % 128 ≡ g = omega arith in
    let high : (g + 128 * value gs) / 128 ≡ value gs = omega arith in
    let big : 128 ≤ g + 128 * value gs = omega (arith, least_value c (omega arith)) in
    rw (groups_high k (g + 128 * value gs) big, low, high, groups_value_in c k (omega arith))

-- the groups of a canonical list's value are the list
pub groups_value : {gs : List ℕ} → Canonical 0 gs → groups (value gs) ≡ gs
unfolding groups
groups_value {gs} c = groups_value_in c (value gs) (omega arith)

-- ---- how many groups

-- a number below 128 ^ (n + 1) has at most n + 1 groups
few_in : (k x n : ℕ) → x ≤ k → x < 128 ^ suc n → length (groups_in k x) ≤ suc n
few_in k x zero h l = rw (groups_low k x (omega (arith, l))) (omega arith)
few_in zero x (suc n) h l = rw (groups_low zero x (omega arith)) (omega arith)
few_in (suc k) x (suc n) h l =
    by_size x
    (λ b. rw (groups_low (suc k) x b) (omega arith))
    (λ b. rw (groups_high k x b) (omega (arith, few_in k (x / 128) n (omega arith) ((div-lt_iff_lt-mul (omega arith)).1 (rw pow-suc at l)))))

-- ---- bytes

bytes_before : {least : ℕ} {gs : List ℕ} (g : ℕ) → Canonical least gs → bytes_of (g ∷ gs) ≡ (g + 128) ∷ bytes_of gs
unfolding bytes_of
bytes_before g (alone l b) = refl
bytes_before g (before b c) = refl

bytes_length : {least : ℕ} {gs : List ℕ} → Canonical least gs → length (bytes_of gs) ≡ length gs
unfolding bytes_of
bytes_length (alone l b) = refl
bytes_length (before {g = g} b c) = ap length (bytes_before g c) ∙ ap suc (bytes_length c)

-- a number below 128 is its own byte
pub bytes_low : (x : ℕ) → x < 128 → number_bytes x ≡ x ∷ []
unfolding number_bytes groups bytes_of
bytes_low x h = ap bytes_of (groups_low x x h)

-- fuel does not matter
groups_fuel : (k x : ℕ) → x ≤ k → groups_in k x ≡ groups x
groups_fuel k x h = sym (ap (groups_in k) (value_groups x)) ∙ groups_value_in (groups_canonical x) k (rw (value_groups x) h)

groups_more : (x : ℕ) → 128 ≤ x → groups x ≡ x % 128 ∷ groups (x / 128)
unfolding groups
groups_more zero h = absurd (omega arith)
groups_more (suc k) h = groups_high k (suc k) h ∙ ap (λ gs. suc k % 128 ∷ gs) (groups_fuel k (suc k / 128) (omega arith))

-- any other is a byte with its low group, and then the bytes of the rest
pub bytes_high : (x : ℕ) → 128 ≤ x → number_bytes x ≡ (x % 128 + 128) ∷ number_bytes (x / 128)
unfolding number_bytes
bytes_high x h = ap bytes_of (groups_more x h) ∙ bytes_before (x % 128) (groups_canonical (x / 128))

-- a number of two bytes
pub bytes_two : (x : ℕ) → 128 ≤ x → x < 256 → number_bytes x ≡ (x % 128 + 128) ∷ x / 128 ∷ []
bytes_two x h v = bytes_high x h ∙ ap (λ r. (x % 128 + 128) ∷ r) (bytes_low (x / 128) (omega arith))

-- a group list that is canonical is not empty
some_group : {least : ℕ} {gs : List ℕ} → Canonical least gs → 1 ≤ length gs
some_group (alone l b) = omega arith
some_group (before b c) = omega arith

-- the number of a number's bytes
pub number_length : (x : ℕ) → length (number_bytes x) ≡ length (groups x)
unfolding number_bytes
number_length x = bytes_length (groups_canonical x)

pub few_bytes : (x n : ℕ) → x < 128 ^ suc n → length (number_bytes x) ≤ suc n
unfolding groups
few_bytes x n h = rw (number_length x) (few_in x x n (omega arith) h)

-- ---- reading

no_first : {X : Type 0} {b : ℕ} {l : List ℕ} → [] ≡ b ∷ l → X
no_first e = absurd (let z : ◌≡◌ {A = ℕ} 0 1 = cc in omega arith)

-- the first byte of a part that is not empty
pub part_here :
    (s : List ℕ) (at b : ℕ) (l : List ℕ) → drop at s ≡ b ∷ l → (at < length s) × (get_or s at 0 ≡ b) × (drop (at + 1) s ≡ l)
part_here [] zero b l e = no_first e
part_here [] (suc at) b l e = no_first e
part_here (x ∷ s) zero b l e = (omega arith, cc, cc)
part_here (x ∷ s) (suc at) b l e =
    let h = part_here s at b l e in
    (omega (arith, h.0), h.1, rw add-one (rw add-one at h.2))

-- what stands at a place is read, where its groups are canonical and few enough
pub read_bytes :
    {least : ℕ} {gs : List ℕ} → Canonical least gs → least ≤ 1 → (most : ℕ) → length gs ≤ most → (s : List ℕ) (at : ℕ) (rest : List ℕ) → drop at s ≡ bytes_of gs ++ rest
    → number_in most least s at ≡ Ok (value gs, at + length gs)
unfolding number_in value bytes_of
read_bytes c d zero h s at rest e = absurd (omega (arith, some_group c))
read_bytes (alone {least = least} {g = g} l b) d (suc most) h s at rest e =
    let p = part_here s at g rest e in
    rw (lt-ltb at (length s) p.0, p.1, le-ltb g least l, lt-ltb g 128 b) (ap (λ v. Ok (v, at + 1)) (omega arith))
read_bytes (before {least = least} {g = g} {gs = gs} b c) d (suc most) h s at rest e =
    let p = part_here s at (g + 128) (bytes_of gs ++ rest) (e ∙ ap (λ l. l ++ rest) (bytes_before g c)) in
    rw
    (lt-ltb at (length s) p.0, p.1, le-ltb (g + 128) least (omega arith), le-ltb (g + 128) 128 (omega arith), read_bytes c (omega arith) most (omega arith) s (at + 1) rest p.2)
    (ap₂ (λ v next. Ok (v, next)) (omega arith) (omega arith))

-- the groups that a number was read from
pub record From (most least : ℕ) (s : List ℕ) (at v next : ℕ) : Type 0 where
  pub gs : List ℕ
  pub canonical : Canonical least gs
  pub few : length gs ≤ most
  pub bytes : drop at s ≡ bytes_of gs ++ drop next s
  pub is : value gs ≡ v
  pub ends : next ≡ at + length gs
  pub inside : next ≤ length s

pub no_value : {X A : Type 0} {r : Refusal} {v : A} {next : ℕ} → ◌≡◌ {A = Read A} (Err r) (Ok (v, next)) → X
no_value e = absurd (let z : ◌≡◌ {A = ℕ} 0 1 = cc in omega arith)

-- what was read is told by its value and the next place
pub read_same : {A : Type 0} {v w : A} {n m : ℕ} → ◌≡◌ {A = Read A} (Ok (v, n)) (Ok (w, m)) → (v ≡ w) × (n ≡ m)
read_same {A} {v} {w} {n} {m} e =
    let p : ◌≡◌ {A = A × ℕ} (v, n) (w, m) = cc in
    (ap (λ (x : A × ℕ). x.0) p, ap (λ (x : A × ℕ). x.1) p)

module _ (s : List ℕ) (byte : (i : ℕ) → get_or s i 0 < 256) where
  -- a byte that ends a number
  ends_here : (k least at v next : ℕ) → at < length s → least ≤ get_or s at 0 → get_or s at 0 < 128 → ◌≡◌ {A = Read ℕ} (Ok (get_or s at 0, at + 1)) (Ok (v, next)) → From (suc k) least s at v next
  unfolding value bytes_of
  ends_here k least at v next h l b e =
      let next-is : at + 1 ≡ next = (read_same e).1 in
      let value-is : get_or s at 0 ≡ v = (read_same e).0 in
      record {
        gs = get_or s at 0 ∷ [];
        canonical = alone l b;
        few = omega arith;
        bytes = drop-cons s at 0 h ∙ ap (λ n. get_or s at 0 ∷ drop n s) (sym (add-one at) ∙ next-is);
        is = omega arith;
        ends = omega arith;
        inside = omega arith;
      }

  -- a byte before what later ones gave
  goes_on :
      (k least at v next : ℕ) → at < length s → 128 ≤ get_or s at 0 → (r : Read ℕ) → above (get_or s at 0 - 128) r ≡ Ok (v, next)
      → ((w : ℕ) → r ≡ Ok (w, next) → From k 1 s (at + 1) w next) → From (suc k) least s at v next
  unfolding value
  goes_on k least at v next h b (Err r) e later = no_value e
  goes_on k least at v next h b (Ok (w, n)) e later =
      let n-is : n ≡ next = (read_same e).1 in
      let value-is : get_or s at 0 - 128 + 128 * w ≡ v = (read_same e).0 in
      let f = later w (ap (λ n. Ok (w, n)) n-is) in
      let g = get_or s at 0 - 128 in
      let high : get_or s at 0 ≡ g + 128 = omega arith in
      record {
        gs = g ∷ f.gs;
        canonical = before {g = g} (omega (arith, byte at)) f.canonical;
        few = omega (arith, f.few);
        bytes =
            drop-cons s at 0 h
            ∙ ap₂ ◌∷◌ high (ap (λ n. drop n s) (sym (add-one at)) ∙ f.bytes)
            ∙ sym (ap (λ l. l ++ drop next s) (bytes_before g f.canonical));
        is = ap (λ x. g + 128 * x) f.is ∙ value-is;
        ends = f.ends ∙ omega arith;
        inside = f.inside;
      }

  -- what is read stands there
  pub read_from : (most least at v next : ℕ) → number_in most least s at ≡ Ok (v, next) → From most least s at v next
  unfolding number_in
  read_from zero least at v next e = no_value e
  read_from (suc k) least at v next e =
      by_bool (ltb at (length s))
      (λ h.
      by_bool (ltb (get_or s at 0) least) (λ l. no_value (rw (h, l) at e))
      (λ l.
      by_bool (ltb (get_or s at 0) 128)
      (λ b. ends_here k least at v next (ltb-true at (length s) h) (ltb-false (get_or s at 0) least l) (ltb-true (get_or s at 0) 128 b) (rw (h, l, b) at e))
      (λ b. goes_on k least at v next (ltb-true at (length s) h) (ltb-false (get_or s at 0) 128 b) (number_in k 1 s (at + 1)) (rw (h, l, b) at e) (λ w. read_from k 1 (at + 1) w next))))
      (λ h. no_value (rw h at e))

-- ---- a sheet's numbers

-- the bytes of a number of at most two groups are read as that number
pub number_read :
    (x : ℕ) → x < 16384 → (s : List ℕ) (at : ℕ) (rest : List ℕ) → drop at s ≡ number_bytes x ++ rest
    → number_at s at ≡ Ok (x, at + length (number_bytes x))
unfolding number_at number_bytes groups
number_read x h s at rest e =
    read_bytes (groups_canonical x) (omega arith) 2 (few_in x x 1 (omega arith) h) s at rest e
    ∙ ap₂ (λ v next. Ok (v, next)) (value_groups x) (ap (λ n. at + n) (sym (number_length x)))

-- what is read at a place are the bytes of the number
pub record Stands (s : List ℕ) (at v next : ℕ) : Type 0 where
  pub bytes : drop at s ≡ number_bytes v ++ drop next s
  pub ends : next ≡ at + length (number_bytes v)
  pub inside : next ≤ length s

pub number_stands :
    (s : List ℕ) → ((i : ℕ) → get_or s i 0 < 256) → (at v next : ℕ) → number_at s at ≡ Ok (v, next) → Stands s at v next
unfolding number_at number_bytes
number_stands s byte at v next e =
    let f = read_from s byte 2 0 at v next e in
    let same : groups v ≡ f.gs = ap groups (sym f.is) ∙ groups_value f.canonical in
    record {
      bytes = rw same f.bytes;
      ends = f.ends ∙ ap (λ n. at + n) (sym (ap (λ gs. length (bytes_of gs)) same ∙ bytes_length f.canonical));
      inside = f.inside;
    }
