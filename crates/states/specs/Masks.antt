-- Only the search's bookkeeping, no part of its claim. The legal masks of a state: the submasks of the mask of all tasks that may be
-- released, in increasing order.
use Rattle.std.specs.Prelude.{◌≡◌, ℕ, zero, suc, ◌+◌, ◌-◌, ◌%◌, ◌<◌, ◌≤◌, ◌==◌, Bool, true, not, ◌&&◌, ◌||◌, bit_and, Option, Some, None, MatchOption}
use Rattle.lists.specs.Lists.{pick}
use Rattle.tasks.specs.Tick.{bit}
use Rattle.states.specs.declared.masks.Masks.{Masks}

-- the submask of free after m, and 0 after the last
unfoldable pub next_mask : ℕ → ℕ → ℕ
next_mask free m = bit_and ((m + (256 - free)) % 256) free

-- .. and 256 after the last
unfoldable pub follows : ℕ → ℕ → ℕ
follows free m = pick (next_mask free m == 0) 256 (next_mask free m)

-- whether every number below n passes the test
unfoldable pub all : ℕ → (ℕ → Bool) → Bool
all zero p = true
all (suc n) p = p n && all n p

-- every set bit of m is set in free
unfoldable pub submask : ℕ → ℕ → Bool
submask free m = all 8 (λ i. not (bit m i) || bit free i)

-- ---- a walk through them

-- the mask that comes next, 256 where none does
abbrev pub place : Option ℕ → ℕ
place (Some m) = m
place None = 256

-- the walk stands at a submask, or at its end
pub record AtMask (walk : Masks) : Type 0 where
  pub small : walk.free < 256
  pub most : place walk.next ≤ 256
  pub is : place walk.next < 256 → submask walk.free (place walk.next) ≡ true

-- a step gives the mask that comes next and goes on to the one after it
pub record Stepped (walk walk' : Masks) (m : ℕ) : Type 0 where
  pub small : m < 256
  pub here : place walk.next ≡ m
  pub free : walk'.free ≡ walk.free
  pub next : place walk'.next ≡ follows walk.free m

-- .. and at the end it gives none
abbrev pub Steps : Masks → Option ℕ → Masks → Type 0
Steps walk r walk' = MatchOption r (place walk.next ≡ 256) (Stepped walk walk')
