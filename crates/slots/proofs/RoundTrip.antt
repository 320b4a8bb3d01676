-- Slots written in a layout and read again (document 02, §6: "any list of at most K slots, written in either layout, reads back as the
-- same slots"). Assumes nothing.
use Prim.Native.Nat.{ℕ, zero, suc, ◌+◌, ◌*◌, ◌≤◌, ◌<◌}
use mathlib.Core.Path.{◌≡◌, refl, sym, ap, ◌∙◌}
use mathlib.Core.List.{List, [], ◌∷◌, ◌++◌, append_assoc, append-nil}
use native.Mathlib.Omega.{arith}
use lib.ListN.{length}
use Rattle.slots.specs.Layout.{Slot, Layout, columns, rows, Apart, FitsIn, slot_at, read_slots, write_slot, write_from, write_slots}
use Rattle.slots.proofs.LayoutLaws.{slot_long, slot_state_stays, slot_parent_stays, slot_mask_stays, slot_state, slot_parent, slot_mask, columns_apart, columns_fit, rows_apart, rows_fit}

-- a slot that a work space can hold: a state of eight tasks, and a parent of four bytes
pub record Sized (x : Slot) : Type 0 where
  pub c : length x.state.c ≡ 8
  pub p : length x.state.p ≡ 8
  pub parent : x.parent < 4294967296

-- .. and a list of such slots
abbrev pub AllSized : List Slot → Type 0
AllSized [] = Unit {0}
AllSized (x ∷ xs) = Sized x × AllSized xs

module _ {l : Layout} {K : ℕ} (apart : Apart l K) where
  module _ (w : List ℕ) (i : ℕ) (x : Slot) (low : i < K) where
    slot_stays : (j : ℕ) → j < K → (i ≡ j → ⊥) → slot_at l (write_slot l w i x) j ≡ slot_at l w j
    slot_stays j h ne =
        λ q. record {
          state = slot_state_stays apart w i x low j h ne q;
          parent = slot_parent_stays apart w i x low j h ne q;
          mask = slot_mask_stays apart w i x low j h ne q;
        }

    slot_read : FitsIn l K (length w) → Sized x → slot_at l (write_slot l w i x) i ≡ x
    slot_read fits s =
        λ q. record {
          state = slot_state apart w i x low fits s.c s.p q;
          parent = slot_parent apart w i x low fits s.parent q;
          mask = slot_mask apart w i x low fits q;
        }

  -- the slots before those written stay
  read_same : (w w' : List ℕ) (n : ℕ) → ((j : ℕ) → j < n → slot_at l w' j ≡ slot_at l w j) → read_slots l w' n ≡ read_slots l w n
  read_same w w' zero h = refl
  read_same w w' (suc n) h = rw (read_same w w' n (λ j b. h j (omega arith)), h n (omega arith))

  written_from :
      (xs : List Slot) (w : List ℕ) (i : ℕ) → i + length xs ≤ K → FitsIn l K (length w) → AllSized xs
      → read_slots l (write_from l w i xs) (i + length xs) ≡ read_slots l w i ++ xs
  written_from [] w i h fits s = let e : i + 0 ≡ i = omega arith in ap (read_slots l w) e ∙ sym (append-nil (read_slots l w i))
  written_from (x ∷ xs) w i h fits s =
      let e : i + suc (length xs) ≡ suc i + length xs = omega arith in
      let w₁ = write_slot l w i x in
      let low : i < K = omega arith in
      let go = written_from xs w₁ (suc i) (omega arith) (λ j c b. omega (arith, fits j c b, slot_long apart w i x low)) s.1 in
      let old = read_same w w₁ i (λ j b. slot_stays w i x low j (omega arith) (λ q. omega arith)) in
      ap (read_slots l (write_from l w₁ (suc i) xs)) e ∙ go
      ∙ (rw (old, slot_read w i x low fits s.0, append_assoc (read_slots l w i) (x ∷ []) xs))

-- LAW: in a layout whose parts do not overlap, slots written are read back, for any list of at most K slots
pub read_written :
    {l : Layout} {K : ℕ} → Apart l K → (w : List ℕ) → FitsIn l K (length w) → (xs : List Slot) → length xs ≤ K → AllSized xs
    → read_slots l (write_slots l w xs) (length xs) ≡ xs
read_written {l} {K} apart w fits xs h s = let e : 0 + length xs ≡ length xs = omega arith in ap (read_slots l (write_slots l w xs)) (sym e) ∙ written_from apart xs w 0 (omega arith) fits s

-- LAW: the two cases
pub read_columns : (K : ℕ) (w : List ℕ) → 21 * K ≤ length w → (xs : List Slot) → length xs ≤ K → AllSized xs → read_slots (columns K) (write_slots (columns K) w xs) (length xs) ≡ xs
read_columns K w h xs = read_written (columns_apart K) w (columns_fit K (length w) h) xs

pub read_rows : (K : ℕ) (w : List ℕ) → 24 * K ≤ length w → (xs : List Slot) → length xs ≤ K → AllSized xs → read_slots rows (write_slots rows w xs) (length xs) ≡ xs
read_rows K w h xs = read_written (rows_apart K) w (rows_fit K (length w) h) xs

-- LAW: "written in either layout, reads back as the same slots", whatever the spaces held
pub same_slots :
    (K : ℕ) (w w' : List ℕ) → 21 * K ≤ length w → 24 * K ≤ length w' → (xs : List Slot) → length xs ≤ K → AllSized xs
    → read_slots (columns K) (write_slots (columns K) w xs) (length xs) ≡ read_slots rows (write_slots rows w' xs) (length xs)
same_slots K w w' h h' xs few s = read_columns K w h xs few s ∙ sym (read_rows K w' h' xs few s)
