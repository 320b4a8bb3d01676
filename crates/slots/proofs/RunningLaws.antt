-- The laws of the layout while a search runs: a slot written, an end set, and the last pass. Assumes nothing.
use Prim.Native.Nat.{ℕ, zero, suc, ◌+◌, ◌*◌, ◌/◌, ◌%◌, ◌≤◌, ◌<◌}
use mathlib.Core.Path.{◌≡◌, refl, sym, ap, ◌∙◌}
use mathlib.Core.List.{List, [], ◌∷◌}
use native.Mathlib.Omega.{arith}
use native.Mathlib.Decide.{dec_lt, ℕ_discrete}
use native.Mathlib.Nat.{div-add-mod'}
use borrow.Author.Count.{below_more}
use borrow.Author.Tests.{lt-ltb, le-ltb, eq-eqb, ne_eqb}
use lib.Dec.{ltb}
use lib.ListN.{length, get_or, set, length-set}
use lib.Seq.{sets, get_or-set_same, get_or-set_other}
use Rattle.lists.specs.Lists.{pick}
use Rattle.tasks.specs.State.{start}
use Rattle.states.specs.Bytes.{four_at, state_in}
use Rattle.tasks.specs.declared.state.State.{State}
use Rattle.slots.specs.Layout.{Slot, slot, columns, four_bytes, state_at, parent_at, mask_at, write_part, write_slot, Stays}
use Rattle.slots.specs.Layout.Part.{OfParent}
use Rattle.slots.specs.Running.{word_at, word_of, block_of, parent_in, ends_after, Ended, Marked, Settling, Settled}
use Rattle.slots.proofs.LayoutLaws.{differ, part_long, part_other, state_stays, parent_stays, mask_stays, parent_written}
use Rattle.slots.proofs.LayoutLaws.{slot_long, slot_other, slot_state_stays, slot_parent_stays, slot_mask_stays, slot_state, slot_parent, slot_mask, stays_none, columns_apart, columns_fit}

-- ---- words

pub word_link : (parent link : ℕ) → link < 1048576 → word_of parent link % 1048576 ≡ link
unfolding word_of
word_link parent link h = let r : parent % 4096 < 4096 = omega arith in above (parent % 4096) link h
  where
    above : (r link : ℕ) → link < 1048576 → (link + 1048576 * r) % 1048576 ≡ link
    above r link b = omega arith

pub word_place : (parent link : ℕ) → link < 1048576 → word_of parent link / 1048576 ≡ parent % 4096
unfolding word_of
word_place parent link h = above (parent % 4096) link h
  where
    above : (r link : ℕ) → link < 1048576 → (link + 1048576 * r) / 1048576 ≡ r
    above r link b = omega arith

pub word_small : (parent link : ℕ) → link < 1048576 → word_of parent link < 4294967296
unfolding word_of
word_small parent link h = let r : parent % 4096 < 4096 = omega arith in omega arith

-- ---- a slot written

state_in_lem : (K : ℕ) (w : List ℕ) (j : ℕ) → state_at (columns K) w j ≡ state_in w j
unfolding state_at state_in
state_in_lem K w j = refl

-- w' is w with slot n of K written, and those before it stay
pub record Put (K : ℕ) (w w' : List ℕ) (n : ℕ) (s : State) (word mask : ℕ) : Type 0 where
  pub len : length w' ≡ length w
  pub states : (j : ℕ) → j < n → state_in w' j ≡ state_in w j
  pub words : (j : ℕ) → j < n → word_at K w' j ≡ word_at K w j
  pub masks : (j : ℕ) → j < n → mask_at (columns K) w' j ≡ mask_at (columns K) w j
  pub state : state_in w' n ≡ s
  pub word_is : word_at K w' n ≡ word
  pub mask_is : mask_at (columns K) w' n ≡ mask
  pub rest : Stays (columns K) (n + 1) w w'

-- LAW: a slot written in columns
pub put_slot :
    {K : ℕ} (w : List ℕ) {n : ℕ} (s : State) (word mask : ℕ) → n < K → 21 * K ≤ length w → length s.c ≡ 8 → length s.p ≡ 8 → word < 4294967296
    → Put K w (write_slot (columns K) w n (slot s word mask)) n s word mask
put_slot {K} w {n} s word mask low fits hc hp small =
    let apart = columns_apart K in
    let x = slot s word mask in
    let room = columns_fit K (length w) fits in
    let w' = write_slot (columns K) w n x in
    record {
      len = slot_long apart w n x low;
      states = λ j h. sym (state_in_lem K w' j) ∙ slot_state_stays apart w n x low j (omega arith) (λ q. omega arith) ∙ state_in_lem K w j;
      words = λ j h. slot_parent_stays apart w n x low j (omega arith) (λ q. omega arith);
      masks = λ j h. slot_mask_stays apart w n x low j (omega arith) (λ q. omega arith);
      state = sym (state_in_lem K w' n) ∙ slot_state apart w n x low room hc hp;
      word_is = slot_parent apart w n x low room small;
      mask_is = slot_mask apart w n x low room;
      rest = record { byte = λ b none. slot_other apart w n x low b (λ c. none n c (omega arith)) };
    }

-- ---- blocks

-- LAW: a slot's block is the first whose end is above it
pub block_is : (ends : List ℕ) (b i : ℕ) → b < length ends → Ended ends b i → i < get_or ends b 0 → block_of ends i ≡ b
unfolding block_of
block_is [] b i low e h = absurd (let z : b < 0 = low in omega arith)
block_is (x ∷ ends) zero i low e h = rw (lt-ltb i x h)
block_is (x ∷ ends) (suc b) i low e h =
    rw (le-ltb i x (e.past 0 (omega arith)), block_is ends b i (omega arith) (record { past = λ c l. e.past (suc c) (omega arith) }) h)

-- an end set above a slot leaves its block, where the end was above it before
pub block_set : (ends : List ℕ) (b n i : ℕ) → i < n → i < get_or ends b 0 → block_of (set ends b n) i ≡ block_of ends i
unfolding block_of
block_set [] b n i h k = refl
block_set (x ∷ ends) zero n i h k = rw (lt-ltb i n h, lt-ltb i x k)
block_set (x ∷ ends) (suc b) n i h k = ap (λ r. pick (ltb i x) 0 (suc r)) (block_set ends b n i h k)

pub ended_more : {ends : List ℕ} {b i j : ℕ} → i ≤ j → Ended ends b i → Ended ends b j
ended_more h x = record { past = λ c l. omega (arith, x.past c l) }

pub ended_next : {ends : List ℕ} {b i : ℕ} → Ended ends b i → get_or ends b 0 ≤ i → Ended ends (b + 1) i
ended_next {ends} {b} {i} x h = record { past = below_more (λ c. get_or ends c 0 ≤ i) b x.past h }

-- where the last end is above n, not all blocks have ended before n
pub ended_low : {ends : List ℕ} {b i n : ℕ} → n ≤ get_or ends 244 0 → Ended ends b i → i < n → b < 245
ended_low {ends} {b} {i} {n} last x h =
    elim (dec_lt b 245) [
      | yes l ↦ l
      | no l ↦ absurd (omega (arith, x.past 244 (omega arith)))
    ]

-- ---- the ends of the blocks

-- no slot has been tried
pub marked_start : {ends : List ℕ} {n : ℕ} → length ends ≡ 245 → ((b : ℕ) → b < 245 → get_or ends b 0 ≡ 1000000) → Marked ends 0 n
marked_start len all = record { len = len; ended = record { past = λ b l. absurd (omega arith) }; unset = λ b l h. all b h }

module _ {ends : List ℕ} {i n : ℕ} (x : Marked ends i n) where
  -- another slot of the same block
  pub marked_same : {j : ℕ} → i ≤ j → j < 4096 * (i / 4096 + 1) → Marked ends j n
  marked_same {j} h l =
      let e : j / 4096 ≡ i / 4096 = (let d = div-add-mod' i 4096 in omega arith) in
      record { len = x.len; ended = rw e x.ended; unset = λ b k. x.unset b (omega arith) }

  -- more slots are filled
  pub marked_more : {m : ℕ} → n ≤ m → Marked ends i m
  marked_more h = record { len = x.len; ended = ended_more h x.ended; unset = x.unset }

  module _ (low : i < 1000000) where
    block_low : i / 4096 < 245
    block_low = omega arith

    -- LAW: the parent of a slot that is filled now is of the block of the slot that is tried
    pub block_now : n < 1000000 → block_of ends n ≡ i / 4096
    block_now h = block_is ends (i / 4096) n (omega (arith, x.len, block_low)) x.ended (rw (x.unset (i / 4096) (omega arith) block_low) h)

    -- slot i has been tried, with n slots filled
    set_long : length (set ends (i / 4096) n) ≡ 245
    set_long = length-set ends (i / 4096) n ∙ x.len

    same_block : (i % 4096 ≡ 4095 → ⊥) → (i + 1) / 4096 ≡ i / 4096
    same_block h = let e = div-add-mod' i 4096 in let r : i % 4096 < 4096 = omega arith in next (i / 4096) (i % 4096) i e r h
      where
        next : (q r i : ℕ) → q * 4096 + r ≡ i → r < 4096 → (r ≡ 4095 → ⊥) → (i + 1) / 4096 ≡ q
        next q r i e l ne = omega arith

    next_block : i % 4096 ≡ 4095 → (i + 1) / 4096 ≡ i / 4096 + 1
    next_block h = let e = div-add-mod' i 4096 in next (i / 4096) (i % 4096) i e h
      where
        next : (q r i : ℕ) → q * 4096 + r ≡ i → r ≡ 4095 → (i + 1) / 4096 ≡ q + 1
        next q r i e h = omega arith

    marked_set : i % 4096 ≡ 4095 → Marked (set ends (i / 4096) n) (i + 1) n
    marked_set h =
        let e = next_block h in
        record {
          len = set_long;
          ended = record { past = rw e (below_more (λ b. get_or (set ends (i / 4096) n) b 0 ≤ n) (i / 4096) old new) };
          unset = λ b l k. get_or-set_other ends (i / 4096) b n 0 (λ q. omega arith) ∙ x.unset b (omega arith) k;
        }
      where
        old : (b : ℕ) → b < i / 4096 → get_or (set ends (i / 4096) n) b 0 ≤ n
        old b l = rw (get_or-set_other ends (i / 4096) b n 0 (λ q. omega arith)) (x.ended.past b l)

        new : get_or (set ends (i / 4096) n) (i / 4096) 0 ≤ n
        new = rw (get_or-set_same ends (i / 4096) n 0 (omega (arith, x.len, block_low))) (omega arith)

    -- LAW: after slot i the ends are those for the slot after it
    pub marked_after : Marked (ends_after ends i n) (i + 1) n
    unfolding ends_after
    marked_after =
        elim (ℕ_discrete (i % 4096) 4095) [
          | yes h ↦ rw (eq-eqb (i % 4096) 4095 h) (marked_set h)
          | no h ↦ rw (ne_eqb (i % 4096) 4095 h) (record { len = x.len; ended = rw (same_block h) x.ended; unset = λ b l k. x.unset b (omega (arith, same_block h)) k })
        ]

    -- .. and the slots filled keep their blocks
    pub block_after : n ≤ 1000000 → (j : ℕ) → j < n → block_of (ends_after ends i n) j ≡ block_of ends j
    unfolding ends_after
    block_after most j h =
        elim (ℕ_discrete (i % 4096) 4095) [
          | yes q ↦ rw (eq-eqb (i % 4096) 4095 q) (block_set ends (i / 4096) n j h (rw (x.unset (i / 4096) (omega arith) block_low) (omega arith)))
          | no q ↦ rw (ne_eqb (i % 4096) 4095 q)
        ]

  -- the last block never ends
  pub marked_last : i ≤ 1000000 → get_or ends 244 0 ≡ 1000000
  marked_last h = x.unset 244 (omega arith) (omega arith)

-- LAW: the parents of the slots filled stay when a slot has been tried
pub parents_after :
    {ends : List ℕ} {i n : ℕ} → Marked ends i n → i < 1000000 → n ≤ 1000000 → (K : ℕ) (w : List ℕ) (j : ℕ) → j < n
    → parent_in K (ends_after ends i n) w j ≡ parent_in K ends w j
unfolding parent_in
parents_after x low most K w j h = rw (block_after x low most j h)

-- LAW: the parent of slot n, whose word was made while slot i was tried
pub parent_now :
    {ends : List ℕ} {i n : ℕ} → Marked ends i n → i < 1000000 → n < 1000000 → (K : ℕ) (w : List ℕ) → word_at K w n / 1048576 ≡ i % 4096
    → parent_in K ends w n ≡ i
unfolding parent_in
parent_now {ends} {i} {n} x low few K w e = rw (block_now x low few, e) (let d = div-add-mod' i 4096 in omega arith)

-- slots with the same words have the same parents
pub parent_same : (ends : List ℕ) (K : ℕ) (w w' : List ℕ) (j : ℕ) → word_at K w' j ≡ word_at K w j → parent_in K ends w' j ≡ parent_in K ends w j
unfolding parent_in
parent_same ends K w w' j e = rw e

-- ---- the last pass

pub settling_start : {K : ℕ} {ends w : List ℕ} → Settling K ends w w 0
settling_start = record {
  len = refl;
  done = λ j h. absurd (omega arith);
  left = λ j l h. refl;
  states = λ j h. refl;
  masks = λ j h. refl;
  rest = stays_none;
}

-- a parent in the place of a word, as a part of a slot
abbrev parent_slot : ℕ → Slot
parent_slot p = slot start p 0

parent_part : (K : ℕ) (w : List ℕ) (i p : ℕ) → sets w (16 * K + 4 * i) (four_bytes p) ≡ write_part (columns K) w i (parent_slot p) OfParent
unfolding write_part
parent_part K w i p = refl

module _ {K : ℕ} {ends w w' : List ℕ} {i : ℕ} (x : Settling K ends w w' i) (low : i < K) (fits : 21 * K ≤ length w) where
  -- one slot more
  settling_part : (p : ℕ) → p ≡ parent_in K ends w i → p < 4294967296 → Settling K ends w (write_part (columns K) w' i (parent_slot p) OfParent) (i + 1)
  settling_part p is small =
      let apart = columns_apart K in
      record {
        len = part_long (columns K) w' i (parent_slot p) OfParent ∙ x.len;
        done = below_more (λ j. parent_at (columns K) (write_part (columns K) w' i (parent_slot p) OfParent) j ≡ parent_in K ends w j) i
            (λ j h. parent_stays apart w' i (parent_slot p) OfParent low j (omega arith) (λ q. omega (arith, q.0)) ∙ x.done j h)
            (parent_written (columns K) w' i (parent_slot p) (omega (arith, x.len)) small ∙ is);
        left = λ j l h. parent_stays apart w' i (parent_slot p) OfParent low j h (λ q. omega (arith, q.0)) ∙ x.left j (omega arith) h;
        states = λ j h. state_stays apart w' i (parent_slot p) OfParent low j h (λ q. differ (λ e. omega arith) q.1) ∙ x.states j h;
        masks = λ j h. mask_stays apart w' i (parent_slot p) OfParent low j h (λ q. differ (λ e. omega arith) q.1) ∙ x.masks j h;
        rest = record {
          byte = λ b none.
              part_other (columns K) w' i (parent_slot p) OfParent b (none i OfParent (omega arith))
              ∙ x.rest.byte b (λ j c l q. none j c (omega arith) q);
        };
      }

  parent_by : (b : ℕ) → b ≡ block_of ends i → 4096 * b + word_at K w' i / 1048576 ≡ parent_in K ends w i
  unfolding parent_in
  parent_by b e = rw (e, x.left i (omega arith) low)

  -- a word is one of 32 bits
  word_fits : ((j : ℕ) → get_or w j 0 < 256) → word_at K w' i < 4294967296
  unfolding parent_at four_at
  word_fits bytes =
      rw (x.left i (omega arith) low)
      (let a = 16 * K + 4 * i in let e = bytes a in let f = bytes (a + 1) in let g = bytes (a + 2) in let h = bytes (a + 3) in omega arith)

  pub settling_next :
      {b : ℕ} → b ≡ block_of ends i → b < 245 → ((j : ℕ) → get_or w j 0 < 256)
      → Settling K ends w (sets w' (16 * K + 4 * i) (four_bytes (4096 * b + word_at K w' i / 1048576))) (i + 1)
  settling_next {b} is few bytes =
      rw (parent_part K w' i (4096 * b + word_at K w' i / 1048576))
      (settling_part (4096 * b + word_at K w' i / 1048576) (parent_by b is) (let small = word_fits bytes in omega arith))

pub settling_end : {K : ℕ} {ends w w' : List ℕ} {n : ℕ} → Settling K ends w w' n → n ≤ K → Settled K ends w w' n
settling_end {K} {ends} {w} {w'} {n} x h = record {
  len = x.len;
  states = λ j b. x.states j (omega arith) ∙ state_in_lem K w j;
  parents = x.done;
  masks = λ j b. x.masks j (omega arith);
  rest = x.rest;
}
