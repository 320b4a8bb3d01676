-- The laws of a layout whose parts do not overlap: a part written is read back, and every other part stays. Assumes nothing.
use Prim.Native.Nat.{ℕ, suc, ◌+◌, ◌-◌, ◌*◌, ◌≤◌, ◌<◌}
use mathlib.Core.Path.{◌≡◌, refl, sym, ap, ◌∙◌}
use mathlib.Core.Logic.{◌⊎◌}
use mathlib.Core.Logic.◌⊎◌.{inl, inr}
use mathlib.Core.List.{List}
use native.Mathlib.Omega.{arith}
use native.Mathlib.Decide.{dec_lt}
use native.Mathlib.Nat.{add-zero}
use lib.ListN.{length, get_or, drop, length-drop, length-replicate}
use lib.Seq.{length-sets, ext_get_or, get_or-drop}
use Rattle.slots.specs.Layout.{Slot, Layout, columns, rows, Part, begin, size, Inside, Apart, FitsIn, state_at, parent_at, mask_at, part_bytes, write_part, write_slot, Stays}
use Rattle.slots.specs.Layout.Part.{OfState, OfParent, OfMask}
use Rattle.slots.proofs.Bytes.{sets_other, sets_here, four_length, state_length, state_same, state_read, four_same, four_read}

-- ---- one part

part_length : (l : Layout) (x : Slot) (c : Part) → length (part_bytes l x c) ≡ size l c
part_length l x OfState = state_length x.state
part_length l x OfParent = four_length x.parent
part_length l x OfMask = ap suc (length-replicate {A = ℕ} l.zeros 0)

module _ (l : Layout) (w : List ℕ) (i : ℕ) (x : Slot) (c : Part) where
  pub part_long : length (write_part l w i x c) ≡ length w
  unfolding write_part
  part_long = length-sets w (begin l c i) (part_bytes l x c)

  -- a byte that is not in the part stays
  pub part_other : (b : ℕ) → (Inside l i c b → ⊥) → get_or (write_part l w i x c) b 0 ≡ get_or w b 0
  unfolding write_part
  part_other b none =
      let n = part_length l x c in
      sets_other (part_bytes l x c) w (begin l c i) b
      (elim (dec_lt b (begin l c i)) [
        | yes h ↦ inl h
        | no h ↦ inr (elim (dec_lt b (begin l c i + size l c)) [
          | yes k ↦ absurd (none (record { from = omega arith; below = k }))
          | no k ↦ omega arith
        ])
      ])

  -- a byte of the part is as it was written
  pub part_here : begin l c i + size l c ≤ length w → (k : ℕ) → k < size l c → get_or (write_part l w i x c) (begin l c i + k) 0 ≡ get_or (part_bytes l x c) k 0
  unfolding write_part
  part_here h k b = let n = part_length l x c in sets_here (part_bytes l x c) w (begin l c i) k (omega arith) (omega arith)

-- ---- bytes of another part

in_part : (l : Layout) (i : ℕ) (c : Part) (k : ℕ) → k < size l c → Inside l i c (begin l c i + k)
in_part l i c k h = record { from = omega arith; below = omega arith }

-- the part of slot j stays, where it is another
module _ {l : Layout} {K : ℕ} (apart : Apart l K) (w : List ℕ) (i : ℕ) (x : Slot) (c : Part) (low : i < K) where
  pub part_stays : (j : ℕ) (d : Part) → j < K → ((i ≡ j) × (c ≡ d) → ⊥) → (k : ℕ) → k < size l d → get_or (write_part l w i x c) (begin l d j + k) 0 ≡ get_or w (begin l d j + k) 0
  part_stays j d h ne k b = part_other l w i x c (begin l d j + k) (λ q. ne (apart i j c d (begin l d j + k) low h q (in_part l j d k b)))

  pub state_stays : (j : ℕ) → j < K → ((i ≡ j) × (c ≡ OfState) → ⊥) → state_at l (write_part l w i x c) j ≡ state_at l w j
  unfolding state_at
  state_stays j h ne = state_same (write_part l w i x c) w (l.state j) (l.state j) (part_stays j OfState h ne)

  pub parent_stays : (j : ℕ) → j < K → ((i ≡ j) × (c ≡ OfParent) → ⊥) → parent_at l (write_part l w i x c) j ≡ parent_at l w j
  unfolding parent_at
  parent_stays j h ne = four_same (write_part l w i x c) w (l.parent j) (l.parent j) (part_stays j OfParent h ne)

  pub mask_stays : (j : ℕ) → j < K → ((i ≡ j) × (c ≡ OfMask) → ⊥) → mask_at l (write_part l w i x c) j ≡ mask_at l w j
  unfolding mask_at
  mask_stays j h ne = rw (add-zero (l.mask j)) at (part_stays j OfMask h ne 0 (omega arith))

-- ---- the part itself

module _ (l : Layout) (w : List ℕ) (i : ℕ) (x : Slot) where
  pub state_written : l.state i + 16 ≤ length w → length x.state.c ≡ 8 → length x.state.p ≡ 8 → state_at l (write_part l w i x OfState) i ≡ x.state
  unfolding state_at
  state_written h hc hp = state_read x.state (write_part l w i x OfState) (l.state i) hc hp (part_here l w i x OfState h)

  pub parent_written : l.parent i + 4 ≤ length w → x.parent < 4294967296 → parent_at l (write_part l w i x OfParent) i ≡ x.parent
  unfolding parent_at
  parent_written h b = four_read x.parent (write_part l w i x OfParent) (l.parent i) b (part_here l w i x OfParent h)

  pub mask_written : l.mask i + suc l.zeros ≤ length w → mask_at l (write_part l w i x OfMask) i ≡ x.mask
  unfolding mask_at
  mask_written h = rw (add-zero (l.mask i)) at (part_here l w i x OfMask h 0 (omega arith))

-- ---- a slot

-- the parts told apart
abbrev pub number : Part → ℕ
number OfState = 0
number OfParent = 1
number OfMask = 2

pub differ : {c d : Part} → (number c ≡ number d → ⊥) → c ≡ d → ⊥
differ ne e = ne (ap number e)

module _ {l : Layout} {K : ℕ} (apart : Apart l K) (w : List ℕ) (i : ℕ) (x : Slot) (low : i < K) where
  pub slot_long : length (write_slot l w i x) ≡ length w
  slot_long =
      part_long l (write_part l (write_part l w i x OfState) i x OfParent) i x OfMask ∙ part_long l (write_part l w i x OfState) i x OfParent ∙ part_long l w i x OfState

  -- a byte of no part of the slot stays
  pub slot_other : (b : ℕ) → ((c : Part) → Inside l i c b → ⊥) → get_or (write_slot l w i x) b 0 ≡ get_or w b 0
  slot_other b none =
      part_other l (write_part l (write_part l w i x OfState) i x OfParent) i x OfMask b (none OfMask)
      ∙ part_other l (write_part l w i x OfState) i x OfParent b (none OfParent)
      ∙ part_other l w i x OfState b (none OfState)

  -- and so does another slot
  module _ (j : ℕ) (h : j < K) (ne : i ≡ j → ⊥) where
    pub slot_state_stays : state_at l (write_slot l w i x) j ≡ state_at l w j
    slot_state_stays =
        state_stays apart (write_part l (write_part l w i x OfState) i x OfParent) i x OfMask low j h (λ q. ne q.0)
        ∙ state_stays apart (write_part l w i x OfState) i x OfParent low j h (λ q. ne q.0)
        ∙ state_stays apart w i x OfState low j h (λ q. ne q.0)

    pub slot_parent_stays : parent_at l (write_slot l w i x) j ≡ parent_at l w j
    slot_parent_stays =
        parent_stays apart (write_part l (write_part l w i x OfState) i x OfParent) i x OfMask low j h (λ q. ne q.0)
        ∙ parent_stays apart (write_part l w i x OfState) i x OfParent low j h (λ q. ne q.0)
        ∙ parent_stays apart w i x OfState low j h (λ q. ne q.0)

    pub slot_mask_stays : mask_at l (write_slot l w i x) j ≡ mask_at l w j
    slot_mask_stays =
        mask_stays apart (write_part l (write_part l w i x OfState) i x OfParent) i x OfMask low j h (λ q. ne q.0)
        ∙ mask_stays apart (write_part l w i x OfState) i x OfParent low j h (λ q. ne q.0)
        ∙ mask_stays apart w i x OfState low j h (λ q. ne q.0)

  -- the slot is read as it was written
  module _ (fits : FitsIn l K (length w)) where
    pub slot_state : length x.state.c ≡ 8 → length x.state.p ≡ 8 → state_at l (write_slot l w i x) i ≡ x.state
    slot_state hc hp =
        state_stays apart (write_part l (write_part l w i x OfState) i x OfParent) i x OfMask low i low (λ q. differ (λ e. omega arith) q.1)
        ∙ state_stays apart (write_part l w i x OfState) i x OfParent low i low (λ q. differ (λ e. omega arith) q.1)
        ∙ state_written l w i x (fits i OfState low) hc hp

    pub slot_parent : x.parent < 4294967296 → parent_at l (write_slot l w i x) i ≡ x.parent
    slot_parent b =
        parent_stays apart (write_part l (write_part l w i x OfState) i x OfParent) i x OfMask low i low (λ q. differ (λ e. omega arith) q.1)
        ∙ parent_written l (write_part l w i x OfState) i x (let f = fits i OfParent low in let n = part_long l w i x OfState in omega arith) b

    pub slot_mask : mask_at l (write_slot l w i x) i ≡ x.mask
    slot_mask =
        mask_written l (write_part l (write_part l w i x OfState) i x OfParent) i x
        (let f = fits i OfMask low in
        let n = part_long l (write_part l w i x OfState) i x OfParent in
        let m = part_long l w i x OfState in
        omega arith)

-- ---- the bytes that stay

pub stays_none : {l : Layout} {n : ℕ} {w : List ℕ} → Stays l n w w
stays_none = record { byte = λ b none. refl }

-- what is in no slot of more is in no slot of fewer
pub stays_more : {l : Layout} {n m : ℕ} {w w' : List ℕ} → n ≤ m → Stays l n w w' → Stays l m w w'
stays_more h x = record { byte = λ b none. x.byte b (λ i c low q. none i c (omega arith) q) }

pub stays_join : {l : Layout} {n m : ℕ} {w w₁ w₂ : List ℕ} → n ≤ m → Stays l n w w₁ → Stays l m w₁ w₂ → Stays l m w w₂
stays_join h x y = record { byte = λ b none. y.byte b none ∙ (stays_more h x).byte b none }

-- ---- the two layouts

columns_state : (K i j : ℕ) (d : Part) (b : ℕ) → i < K → j < K → Inside (columns K) i OfState b → Inside (columns K) j d b → (i ≡ j) × (OfState ≡ d)
columns_state K i j OfState b h k x y = let p = x.from in let q = x.below in let r = y.from in let s = y.below in (omega arith, refl)
columns_state K i j OfParent b h k x y = let p = x.from in let q = x.below in let r = y.from in let s = y.below in absurd (omega arith)
columns_state K i j OfMask b h k x y = let p = x.from in let q = x.below in let r = y.from in let s = y.below in absurd (omega arith)

columns_parent : (K i j : ℕ) (d : Part) (b : ℕ) → i < K → j < K → Inside (columns K) i OfParent b → Inside (columns K) j d b → (i ≡ j) × (OfParent ≡ d)
columns_parent K i j OfState b h k x y = let p = x.from in let q = x.below in let r = y.from in let s = y.below in absurd (omega arith)
columns_parent K i j OfParent b h k x y = let p = x.from in let q = x.below in let r = y.from in let s = y.below in (omega arith, refl)
columns_parent K i j OfMask b h k x y = let p = x.from in let q = x.below in let r = y.from in let s = y.below in absurd (omega arith)

columns_mask : (K i j : ℕ) (d : Part) (b : ℕ) → i < K → j < K → Inside (columns K) i OfMask b → Inside (columns K) j d b → (i ≡ j) × (OfMask ≡ d)
columns_mask K i j OfState b h k x y = let p = x.from in let q = x.below in let r = y.from in let s = y.below in absurd (omega arith)
columns_mask K i j OfParent b h k x y = let p = x.from in let q = x.below in let r = y.from in let s = y.below in absurd (omega arith)
columns_mask K i j OfMask b h k x y = let p = x.from in let q = x.below in let r = y.from in let s = y.below in (omega arith, refl)

-- LAW: the parts of K slots in columns laid out for K do not overlap, and take 21 K bytes
pub columns_apart : (K : ℕ) → Apart (columns K) K
columns_apart K i j OfState d b = columns_state K i j d b
columns_apart K i j OfParent d b = columns_parent K i j d b
columns_apart K i j OfMask d b = columns_mask K i j d b

pub columns_fit : (K n : ℕ) → 21 * K ≤ n → FitsIn (columns K) K n
columns_fit K n h i OfState low = omega arith
columns_fit K n h i OfParent low = omega arith
columns_fit K n h i OfMask low = omega arith

-- the place of a part in its row
abbrev offset : Part → ℕ
offset OfState = 0
offset OfParent = 16
offset OfMask = 20

rows_begin : (c : Part) (i : ℕ) → begin rows c i ≡ 24 * i + offset c
rows_begin OfState i = omega arith
rows_begin OfParent i = refl
rows_begin OfMask i = refl

rows_end : (c : Part) → offset c + size rows c ≤ 24
rows_end OfState = omega arith
rows_end OfParent = omega arith
rows_end OfMask = omega arith

-- parts that share a byte of their row are the same
rows_part : (c d : Part) (k : ℕ) → offset c ≤ k → k < offset c + size rows c → offset d ≤ k → k < offset d + size rows d → c ≡ d
rows_part OfState OfState k a b e f = refl
rows_part OfState OfParent k a b e f = absurd (omega arith)
rows_part OfState OfMask k a b e f = absurd (omega arith)
rows_part OfParent OfState k a b e f = absurd (omega arith)
rows_part OfParent OfParent k a b e f = refl
rows_part OfParent OfMask k a b e f = absurd (omega arith)
rows_part OfMask OfState k a b e f = absurd (omega arith)
rows_part OfMask OfParent k a b e f = absurd (omega arith)
rows_part OfMask OfMask k a b e f = refl

-- LAW: nor do those of rows, which take 24 K bytes
pub rows_apart : (K : ℕ) → Apart rows K
rows_apart K i j c d b h k x y =
    let p : 24 * i + offset c ≤ b = (rw (rows_begin c i) at x.from) in
    let q : b < 24 * i + offset c + size rows c = (rw (rows_begin c i) at x.below) in
    let r : 24 * j + offset d ≤ b = (rw (rows_begin d j) at y.from) in
    let s : b < 24 * j + offset d + size rows d = (rw (rows_begin d j) at y.below) in
    let u = rows_end c in
    let v = rows_end d in
    let e : i ≡ j = omega arith in
    (e, rows_part c d (b - 24 * i) (omega arith) (omega arith) (omega arith) (omega arith))

pub rows_fit : (K n : ℕ) → 24 * K ≤ n → FitsIn rows K n
rows_fit K n h i c low = let u = rows_end c in let e = rows_begin c i in omega arith

-- ---- the bytes that stay, place by place

-- a byte of an unwritten slot in one of the columns, or after the third
abbrev pub Unwritten : ℕ → ℕ → ℕ → Type 0
Unwritten K n b = ((16 * n ≤ b) × (b < 16 * K)) ⊎ (((16 * K + 4 * n ≤ b) × (b < 20 * K)) ⊎ (20 * K + n ≤ b))

columns_outside : (K n b i : ℕ) (c : Part) → n ≤ K → i < n → Unwritten K n b → Inside (columns K) i c b → ⊥
columns_outside K n b i OfState h low (inl u) q = let y = q.below in omega (arith, u.0)
columns_outside K n b i OfState h low (inr (inl u)) q = let y = q.below in omega (arith, u.0)
columns_outside K n b i OfState h low (inr (inr u)) q = let y = q.below in omega arith
columns_outside K n b i OfParent h low (inl u) q = let x = q.from in omega (arith, u.1)
columns_outside K n b i OfParent h low (inr (inl u)) q = let y = q.below in omega (arith, u.0)
columns_outside K n b i OfParent h low (inr (inr u)) q = let y = q.below in omega arith
columns_outside K n b i OfMask h low (inl u) q = let x = q.from in omega (arith, u.1)
columns_outside K n b i OfMask h low (inr (inl u)) q = let x = q.from in omega (arith, u.1)
columns_outside K n b i OfMask h low (inr (inr u)) q = let y = q.below in omega arith

-- LAW: "Work bytes that stay are now those of unwritten slots in each column and those after the third" (02, §6)
pub columns_stay : {K n : ℕ} {w w' : List ℕ} → n ≤ K → Stays (columns K) n w w' → (b : ℕ) → Unwritten K n b → get_or w' b 0 ≡ get_or w b 0
columns_stay {K} {n} h x b u = x.byte b (λ i c low q. columns_outside K n b i c h low u q)

-- LAW: in rows, "Every later work byte stays" (01)
pub rows_stay : {n : ℕ} {w w' : List ℕ} → length w' ≡ length w → Stays rows n w w' → drop (24 * n) w' ≡ drop (24 * n) w
rows_stay {n} {w} {w'} e x =
    ext_get_or 0 (drop (24 * n) w') (drop (24 * n) w) (length-drop (24 * n) w' ∙ ap (λ l. l - 24 * n) e ∙ sym (length-drop (24 * n) w))
    (λ k h. get_or-drop (24 * n) w' k 0 ∙ x.byte (24 * n + k) (λ i c low q. later i c k low q.below) ∙ sym (get_or-drop (24 * n) w k 0))
  where
    later : (i : ℕ) (c : Part) (k : ℕ) → i < n → 24 * n + k < begin rows c i + size rows c → ⊥
    later i c k low h = let u = rows_end c in let e = rows_begin c i in omega arith
