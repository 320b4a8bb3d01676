-- Totals as bytes: written number by number, and read back. Assumes nothing.
use Prim.Native.Nat.{ℕ, zero, suc, ◌+◌, ◌*◌, ◌-◌, ◌/◌, ◌%◌, ◌^◌, ◌≤◌, ◌<◌}
use mathlib.Core.Path.{◌≡◌, refl, sym, ap, ap₂, ◌∙◌}
use mathlib.Core.List.{List, ◌∷◌, ◌++◌, append_assoc}
use native.Mathlib.Omega.{arith}
use native.Mathlib.Decide.{dec_lt}
use native.Mathlib.Nat.{add_assoc, add-zero, zero-add, pow-suc, div-one, div-div-eq-div-mul, div-lt_iff_lt-mul}
use native.Mathlib.Numerals.{add-one, one-add}
use lib.ListN.{length, get_or, take, drop, length-append, get_or-append}
use lib.Seq.{sets, sets-eq, get_or-append-add}
use borrow.Author.Tests.{lt-ltb, le-ltb}
use borrow.Rule.Slice.PartMut.{put_mid, Post-is}
use Rattle.std.specs.Int.{w64, byte_at, bytes_low_first, to_le_bytes}
use Rattle.tasks.proofs.Stores.{storing_start, storing_step, storing_last}
use Rattle.service.specs.Bytes.{low_first, low_at, row_bytes, rows_of, totals_bytes, totals_space}
use Rattle.service.specs.declared.totals.Totals.{Totals}

-- ---- a number

pub low_length : (k n : ℕ) → length (low_first k n) ≡ k
unfolding low_first
low_length zero n = refl
low_length (suc k) n = ap suc (low_length k (n / 256))

low_byte : (j n : ℕ) → byte_at j n ≡ n / 256 ^ j % 256
low_byte zero n = ap (λ m. m % 256) (sym (div-one n))
low_byte (suc j) n = refl

-- the bytes of a number from byte j on
low_bytes : (k j n : ℕ) → bytes_low_first j k n ≡ low_first k (n / 256 ^ j)
unfolding low_first
low_bytes zero j n = refl
low_bytes (suc k) j n =
    let next : n / 256 ^ suc j ≡ n / 256 ^ j / 256 = ap (λ p. n / p) (pow-suc 256 j) ∙ sym (div-div-eq-div-mul n (256 ^ j) 256) in
    ap₂ (λ b l. b ∷ l) (low_byte j n) (low_bytes k (suc j) n ∙ ap (low_first k) next)

-- the eight bytes of a number in the place of eight others
pub low_put : (out : List ℕ) (at n : ℕ) {part : List ℕ} → at + 8 ≤ length out → part ≡ to_le_bytes w64 n → put_mid at (at + 8 - at) out part ≡ sets out at (low_first 8 n)
low_put out at n {part} room e =
    let same : part ≡ low_first 8 n = e ∙ low_bytes 8 0 n ∙ ap (low_first 8) (div-one n) in
    let long = low_length 8 n in
    rw (same, Post-is at (at + 8) out (omega arith))
    (sym (append_assoc (take at out) (low_first 8 n) (drop (at + 8) out)) ∙ sym (rw long at (sets-eq (low_first 8 n) out at (omega arith))))

-- ---- the three numbers of a task

pub row_length : (a b c : ℕ) → length (row_bytes a b c) ≡ 24
unfolding row_bytes
row_length a b c =
    let x = low_first 8 a in
    let y = low_first 8 b in
    let z = low_first 8 c in
    omega (arith, length-append x (y ++ z), length-append y z, low_length 8 a, low_length 8 b, low_length 8 c)

pub row_put :
    (old : List ℕ) (at a b c : ℕ) {one two three : List ℕ} → at + 24 ≤ length old → one ≡ sets old at (low_first 8 a)
    → two ≡ sets one (at + 8) (low_first 8 b) → three ≡ sets two (at + 16) (low_first 8 c) → three ≡ sets old at (row_bytes a b c)
unfolding row_bytes
row_put old at a b c room e f g =
    let x = low_first 8 a in
    let y = low_first 8 b in
    let z = low_first 8 c in
    let s = storing_start old at (x ++ (y ++ z)) (omega (arith, length-append x (y ++ z), length-append y z, low_length 8 a, low_length 8 b, low_length 8 c)) in
    let s₁ = storing_step x (y ++ z) s {at' = at + 8} e (omega (arith, low_length 8 a)) in
    let s₂ = storing_step y z s₁ {at' = at + 16} f (omega (arith, low_length 8 b)) in
    storing_last z s₂ g

-- ---- the rows

module _ (x : Totals) where
  rows_length : (n : ℕ) → length (rows_of x n) ≡ 24 * n
  unfolding rows_of
  rows_length zero = refl
  rows_length (suc n) =
      let row = row_bytes (get_or x.releases n 0) (get_or x.ran n 0) (get_or x.left n 0) in
      omega (arith, length-append (rows_of x n) row, rows_length n, row_length (get_or x.releases n 0) (get_or x.ran n 0) (get_or x.left n 0))

  pub rows_none : (l : List ℕ) → l ≡ sets l 0 (rows_of x 0)
  unfolding rows_of
  rows_none l = refl

  pub rows_turn :
      (l : List ℕ) (n : ℕ) → 24 * n + 24 ≤ length l
      → sets (sets l 0 (rows_of x n)) (24 * n) (row_bytes (get_or x.releases n 0) (get_or x.ran n 0) (get_or x.left n 0)) ≡ sets l 0 (rows_of x (n + 1))
  unfolding rows_of
  rows_turn l n h =
      let row = row_bytes (get_or x.releases n 0) (get_or x.ran n 0) (get_or x.left n 0) in
      let size = row_length (get_or x.releases n 0) (get_or x.ran n 0) (get_or x.left n 0) in
      let whole = storing_start l 0 (rows_of x n ++ row) (omega (arith, length-append (rows_of x n) row, rows_length n, size)) in
      rw (add-one n) (storing_step (rows_of x n) row whole {at' = 24 * n} refl (omega (arith, rows_length n))).stored

  -- ---- the space

  pub space_short : (out : List ℕ) → length out < 192 → out ≡ totals_space x out
  unfolding totals_space
  space_short out h = rw (lt-ltb (length out) 192 h)

  pub space_front : (out : List ℕ) → 192 ≤ length out → sets out 0 (totals_bytes x) ≡ totals_space x out
  unfolding totals_space
  space_front out h =
      let size = rows_length 8 in
      let e : 0 + length (rows_of x 8) ≡ 192 = omega arith in
      rw (le-ltb (length out) 192 h) (sets-eq (rows_of x 8) out 0 (omega arith) ∙ ap (λ n. rows_of x 8 ++ drop n out) e)

  -- ---- read back

  row_byte :
      (n i k : ℕ) → i < n → k < 24
      → get_or (rows_of x n) (24 * i + k) 0 ≡ get_or (row_bytes (get_or x.releases i 0) (get_or x.ran i 0) (get_or x.left i 0)) k 0
  unfolding rows_of
  row_byte zero i k h b = absurd (let z : i < 0 = h in omega arith)
  row_byte (suc n) i k h b =
      let l = rows_length n in
      let row = row_bytes (get_or x.releases n 0) (get_or x.ran n 0) (get_or x.left n 0) in
      elim (dec_lt i n) [
        | yes m ↦ get_or-append (rows_of x n) row 0 (24 * i + k) (omega arith) ∙ row_byte n i k m b
        | no m ↦
            let e : i ≡ n = omega arith in
            rw e (rw l at (get_or-append-add (rows_of x n) row k 0))
      ]

  -- byte k of task i's row in a space with room
  space_byte :
      (out : List ℕ) → 192 ≤ length out → (i k : ℕ) → i < 8 → k < 24
      → get_or (totals_space x out) (24 * i + k) 0 ≡ get_or (row_bytes (get_or x.releases i 0) (get_or x.ran i 0) (get_or x.left i 0)) k 0
  unfolding totals_space
  space_byte out room i k h b =
      let size = rows_length 8 in
      rw (le-ltb (length out) 192 room)
      (get_or-append (rows_of x 8) (drop 192 out) 0 (24 * i + k) (omega arith) ∙ row_byte 8 i k h b)

-- the bytes of a number, wherever they stand, are read as the number
pub low_read :
    (k n : ℕ) (w : List ℕ) (at : ℕ) → n < 256 ^ k → ((j : ℕ) → j < k → get_or w (at + j) 0 ≡ get_or (low_first k n) j 0) → low_at k w at ≡ n
unfolding low_first low_at
low_read zero n w at h f = let z : n < 1 = h in omega arith
low_read (suc k) n w at h f =
    let low : get_or w (at + 0) 0 ≡ n % 256 = f 0 (omega arith) in
    let first : get_or w at 0 ≡ n % 256 = ap (λ a. get_or w a 0) (sym (add-zero at)) ∙ low in
    let less : n < 256 ^ k * 256 = rw (← pow-suc 256 k) h in
    let rest =
    low_read k (n / 256) w (at + 1) ((div-lt_iff_lt-mul (omega arith)).1 less)
    (λ j l. ap (λ a. get_or w a 0) (add_assoc at 1 j ∙ ap (λ m. at + m) (one-add j)) ∙ f (suc j) (omega arith)) in
    omega (arith, first, rest)

-- ---- the parts of a row

module _ (a b c j : ℕ) (h : j < 8) where
  part_first : get_or (row_bytes a b c) (0 + j) 0 ≡ get_or (low_first 8 a) j 0
  unfolding row_bytes
  part_first =
      ap (λ k. get_or (row_bytes a b c) k 0) (zero-add j) ∙ get_or-append (low_first 8 a) (low_first 8 b ++ low_first 8 c) 0 j (omega (arith, low_length 8 a))

  part_second : get_or (row_bytes a b c) (8 + j) 0 ≡ get_or (low_first 8 b) j 0
  unfolding row_bytes
  part_second =
      (rw (low_length 8 a) at (get_or-append-add (low_first 8 a) (low_first 8 b ++ low_first 8 c) j 0))
      ∙ get_or-append (low_first 8 b) (low_first 8 c) 0 j (omega (arith, low_length 8 b))

  part_third : get_or (row_bytes a b c) (16 + j) 0 ≡ get_or (low_first 8 c) j 0
  unfolding row_bytes
  part_third =
      ap (λ k. get_or (row_bytes a b c) k 0) (add_assoc 8 8 j)
      ∙ (rw (low_length 8 a) at (get_or-append-add (low_first 8 a) (low_first 8 b ++ low_first 8 c) (8 + j) 0))
      ∙ (rw (low_length 8 b) at (get_or-append-add (low_first 8 b) (low_first 8 c) j 0))

-- LAW: in a space with room the three numbers of a task are read back
module _ (x : Totals) (out : List ℕ) (room : 192 ≤ length out) (i : ℕ) (h : i < 8) where
  at_row :
      (n p : ℕ) → p + 8 ≤ 24 → n < 256 ^ 8
      → ((j : ℕ) → j < 8 → get_or (row_bytes (get_or x.releases i 0) (get_or x.ran i 0) (get_or x.left i 0)) (p + j) 0 ≡ get_or (low_first 8 n) j 0)
      → low_at 8 (totals_space x out) (24 * i + p) ≡ n
  at_row n p b l f =
      low_read 8 n (totals_space x out) (24 * i + p) l
      (λ j k. ap (λ m. get_or (totals_space x out) m 0) (add_assoc (24 * i) p j) ∙ space_byte x out room i (p + j) h (omega arith) ∙ f j k)

  pub releases_read : get_or x.releases i 0 < 256 ^ 8 → low_at 8 (totals_space x out) (24 * i + 0) ≡ get_or x.releases i 0
  releases_read l = at_row (get_or x.releases i 0) 0 (omega arith) l (λ j k. part_first _ _ _ j k)

  pub ran_read : get_or x.ran i 0 < 256 ^ 8 → low_at 8 (totals_space x out) (24 * i + 8) ≡ get_or x.ran i 0
  ran_read l = at_row (get_or x.ran i 0) 8 (omega arith) l (λ j k. part_second _ _ _ j k)

  pub left_read : get_or x.left i 0 < 256 ^ 8 → low_at 8 (totals_space x out) (24 * i + 16) ≡ get_or x.left i 0
  left_read l = at_row (get_or x.left i 0) 16 (omega arith) l (λ j k. part_third _ _ _ j k)
