-- One more tick of the sum, and the room that its bytes have. Assumes nothing.
use Rattle.std.proofs.Common.{◌≡◌, ℕ, ◌+◌, ◌*◌, ◌/◌, ◌%◌, ◌^◌, ◌<◌, ◌≤◌, min, Bool, true, false, ltb, List, length, get_or, refl, sym, ap, ◌∙◌, add-one, arith, ltb-false, ltb-true, le-ltb}
use Rattle.std.proofs.Math.Nat.{mod-eq_of_lt}
use mir.Val.{bool_byte}
use Rattle.lists.specs.Lists.{pick}
use Rattle.tasks.specs.declared.table.Table.{Table}
use Rattle.lists.proofs.Bools.{by_bool}
use Rattle.ticks.specs.Ticks.{table_of, state_in, figure, tick_of, sum, pairs, ticks_sum}

pub bool_number : (b : Bool) → bool_byte b ≡ pick b 1 0
bool_number true = refl
bool_number false = refl

-- the less of two numbers
pub pick_min : (a b : ℕ) → min a b ≡ pick (ltb a b) a b
pick_min a b = by_bool (ltb a b) (λ e. rw e (let l = ltb-true a b e in omega arith)) (λ e. rw e (let l = ltb-false a b e in omega arith))

module _ (states masks : List ℕ) where
  pub pairs_room : (k : ℕ) → k < pairs states masks → (16 * k + 16 ≤ length states) × (k < length masks)
  unfolding pairs
  pairs_room k h =
      by_bool (ltb (length states / 16) (length masks))
      (λ e. let q : k < length states / 16 = rw e at h in (omega arith, omega (arith, ltb-true (length states / 16) (length masks) e)))
      (λ e. let q : k < length masks = rw e at h in (omega (arith, ltb-false (length states / 16) (length masks) e), q))

  module _ (t : Table) where
    pub sum_start : 0 ≡ sum t states masks 0
    unfolding sum
    sum_start = refl

    pub sum_turn :
        {x f : ℕ} (k : ℕ) → x ≡ sum t states masks k → f ≡ figure t (tick_of t (state_in states k) (get_or masks k 0))
        → (x + f) % 2 ^ 64 ≡ sum t states masks (k + 1)
    unfolding sum
    sum_turn k e h = rw (add-one, e, h)

    pub sum_first : {f : ℕ} → f ≡ figure t (tick_of t (state_in states 0) (get_or masks 0 0)) → f < 2 ^ 64 → f ≡ sum t states masks 1
    sum_first {f} e h =
        let z : 0 + f ≡ f = omega arith in
        let q : (0 + f) % 2 ^ 64 ≡ sum t states masks 1 = sum_turn 0 sum_start e in
        sym (mod-eq_of_lt h) ∙ ap (λ x. x % 2 ^ 64) (sym z) ∙ q

    pub sum_end :
        (table : List ℕ) {x n : ℕ} (k : ℕ) → x ≡ sum t states masks k → k ≤ n → n ≤ k → n ≡ pairs states masks → t ≡ table_of table → 27 ≤ length table
        → x ≡ ticks_sum table states masks
    unfolding ticks_sum
    sum_end table k e a b p h l =
        let q : k ≡ pairs states masks = omega arith in
        e ∙ rw (le-ltb (length table) 27 l, q, h)
