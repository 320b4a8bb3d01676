-- Which masks are legal. Assumes nothing.
use Prim.Native.Nat.{ℕ, ◌≤◌, ◌<◌}
use mathlib.Core.Path.{◌≡◌, refl}
use mathlib.Core.Bool.{true, false, ◌||◌}
use native.Mathlib.Omega.{arith}
use lib.Dec.{ltb, leb}
use lib.ListN.{get_or}
use borrow.Author.Tests.{ltb-false, lt-ltb, le-ltb, leb-false, le-leb, lt-leb}
use Rattle.lists.specs.Lists.{any}
use Rattle.tasks.specs.Tick.{bit, illegal_at, illegal}
use Rattle.tasks.specs.declared.state.State.{State}
use Rattle.tasks.specs.declared.table.Table.{Table}
use Rattle.lists.proofs.Bools.{by_bool, both, or_left, or_right, nor_left, nor_right}
use Rattle.lists.proofs.Counts.{any_false, none_any, some_any}

module _ (t : Table) (s : State) where
  -- LAW: the empty mask is always legal
  pub empty_legal : illegal t s 0 ≡ false
  unfolding illegal illegal_at any
  empty_legal = refl

  module _ (mask i : ℕ) (h : i < 8) where
    -- LAW: a bit for a task that may not be released yet is refused
    pub early_illegal : bit mask i ≡ true → 0 < get_or s.p i 0 → illegal t s mask ≡ true
    unfolding illegal illegal_at
    early_illegal e b =
        some_any (illegal_at t s mask) 8 i h (both e (or_right (leb t.n i) (lt-ltb 0 (get_or s.p i 0) b)))

    -- LAW: a bit for no task is refused
    pub beyond_illegal : bit mask i ≡ true → t.n ≤ i → illegal t s mask ≡ true
    unfolding illegal illegal_at
    beyond_illegal e b =
        some_any (illegal_at t s mask) 8 i h (both e (or_left (ltb 0 (get_or s.p i 0)) (le-leb t.n i b)))

    -- each bit of a legal mask is for a task that may be released
    pub legal_bit : illegal t s mask ≡ false → bit mask i ≡ true → (i < t.n) × (get_or s.p i 0 ≡ 0)
    unfolding illegal illegal_at
    legal_bit legal e =
        let n = leb t.n i in
        let p = ltb 0 (get_or s.p i 0) in
        let z : n || p ≡ false = rw e at (any_false (illegal_at t s mask) 8 i legal h) in
        (leb-false t.n i (nor_left n p z), omega (arith, ltb-false 0 (get_or s.p i 0) (nor_right n p z)))

  -- and a mask whose every bit is so is legal
  pub bits_legal : (mask : ℕ) → ((i : ℕ) → i < 8 → bit mask i ≡ true → (i < t.n) × (get_or s.p i 0 ≡ 0)) → illegal t s mask ≡ false
  unfolding illegal illegal_at
  bits_legal mask f =
      none_any (illegal_at t s mask) 8
      (λ i h. by_bool (bit mask i)
      (λ e. rw (e, lt-leb t.n i (f i h e).0, le-ltb 0 (get_or s.p i 0) (omega (arith, (f i h e).1))))
      (λ e. rw e))
