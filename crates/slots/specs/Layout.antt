-- The slots of a work space in bytes (document 01, "The search"; document 02, §6, "Columns instead of rows"). A layout says where the
-- parts of each slot stand. This file is to be believed.
use Rattle.std.specs.Prelude.{◌≡◌, List, [], ◌∷◌, ◌++◌, ℕ, zero, suc, ◌+◌, ◌*◌, ◌/◌, ◌%◌, ◌<◌, ◌≤◌, get_or, replicate}
use Rattle.std.proofs.lemmas.List.Edits.{sets}
use Rattle.tasks.specs.declared.state.State.{State}
use Rattle.states.specs.Bytes.{four_at, state_from, state_bytes}

-- what a slot holds
pub record Slot : Type 0 where
  pub state : State
  pub parent : ℕ
  pub mask : ℕ

abbrev pub slot : State → ℕ → ℕ → Slot
slot s p m = record { state = s; parent = p; mask = m }

-- ---- layouts

-- at which byte the parts of slot i begin, and how many zero bytes follow its mask
pub record Layout : Type 0 where
  pub state : ℕ → ℕ
  pub parent : ℕ → ℕ
  pub mask : ℕ → ℕ
  pub zeros : ℕ

-- 02, §6: "three columns: K states of 16 bytes, then K parents of 4, then K masks"
abbrev pub columns : ℕ → Layout
columns K = record { state = λ i. 16 * i; parent = λ i. 16 * K + 4 * i; mask = λ i. 20 * K + i; zeros = 0 }

-- 01, before 02's §6: rows of 24 bytes, "16 state bytes .., the parent slot in 4 bytes low byte first, the mask, three zero bytes"
abbrev pub rows : Layout
rows = record { state = λ i. 24 * i; parent = λ i. 24 * i + 16; mask = λ i. 24 * i + 20; zeros = 3 }

-- ---- a slot's parts

pub data Part : Type 0 where
  OfState : Part
  OfParent : Part
  OfMask : Part

-- where a part of slot i begins, and how many bytes it has; the zero bytes are the mask's
abbrev pub begin : Layout → Part → ℕ → ℕ
begin l OfState i = l.state i
begin l OfParent i = l.parent i
begin l OfMask i = l.mask i

abbrev pub size : Layout → Part → ℕ
size l OfState = 16
size l OfParent = 4
size l OfMask = suc l.zeros

-- byte b is one of this part of slot i
pub record Inside (l : Layout) (i : ℕ) (c : Part) (b : ℕ) : Type 0 where
  pub from : begin l c i ≤ b
  pub below : b < begin l c i + size l c

-- the parts of the first K slots do not overlap: no byte is in two of them
abbrev pub Apart : Layout → ℕ → Type 0
Apart l K = (i j : ℕ) (c d : Part) (b : ℕ) → i < K → j < K → Inside l i c b → Inside l j d b → (i ≡ j) × (c ≡ d)

-- .. and stand in the first n bytes
abbrev pub FitsIn : Layout → ℕ → ℕ → Type 0
FitsIn l K n = (i : ℕ) (c : Part) → i < K → begin l c i + size l c ≤ n

-- ---- reading

-- "16 state bytes (c, p of task 1, then task 2 and so on)"
unfoldable pub state_at : Layout → List ℕ → ℕ → State
state_at l w i = state_from w (l.state i)

-- "the parent slot in 4 bytes low byte first"
unfoldable pub parent_at : Layout → List ℕ → ℕ → ℕ
parent_at l w i = four_at w (l.parent i)

-- "the mask"
unfoldable pub mask_at : Layout → List ℕ → ℕ → ℕ
mask_at l w i = get_or w (l.mask i) 0

abbrev pub slot_at : Layout → List ℕ → ℕ → Slot
slot_at l w i = slot (state_at l w i) (parent_at l w i) (mask_at l w i)

-- the first n slots, in their order
abbrev pub read_slots : Layout → List ℕ → ℕ → List Slot
read_slots l w zero = []
read_slots l w (suc n) = read_slots l w n ++ slot_at l w n ∷ []

-- the zero bytes of slot i are 0
abbrev pub Zeros : Layout → List ℕ → ℕ → Type 0
Zeros l w i = (z : ℕ) → z < l.zeros → get_or w (l.mask i + 1 + z) 0 ≡ 0

-- ---- writing

-- a number in four bytes, low byte first
unfoldable pub four_bytes : ℕ → List ℕ
four_bytes x = x % 256 ∷ x / 256 % 256 ∷ x / 65536 % 256 ∷ x / 16777216 % 256 ∷ []

-- the bytes of a slot's part
abbrev pub part_bytes : Layout → Slot → Part → List ℕ
part_bytes l x OfState = state_bytes x.state
part_bytes l x OfParent = four_bytes x.parent
part_bytes l x OfMask = x.mask ∷ replicate l.zeros 0

-- w with slot i written
unfoldable pub write_part : Layout → List ℕ → ℕ → Slot → Part → List ℕ
write_part l w i x c = sets w (begin l c i) (part_bytes l x c)

abbrev pub write_slot : Layout → List ℕ → ℕ → Slot → List ℕ
write_slot l w i x = write_part l (write_part l (write_part l w i x OfState) i x OfParent) i x OfMask

-- w with these slots written from slot i on
abbrev pub write_from : Layout → List ℕ → ℕ → List Slot → List ℕ
write_from l w i [] = w
write_from l w i (x ∷ xs) = write_from l (write_slot l w i x) (suc i) xs

abbrev pub write_slots : Layout → List ℕ → List Slot → List ℕ
write_slots l w xs = write_from l w 0 xs

-- ---- the bytes that stay

-- "Work bytes that stay": every byte that is in no part of the first n slots
pub record Stays (l : Layout) (n : ℕ) (w w' : List ℕ) : Type 0 where
  pub byte : (b : ℕ) → ((i : ℕ) (c : Part) → i < n → Inside l i c b → ⊥) → get_or w' b 0 ≡ get_or w b 0
