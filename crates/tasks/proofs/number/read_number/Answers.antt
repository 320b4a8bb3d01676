-- Each exit of the reader is a case of `number_at`, by the tests that led there. Assumes nothing.
use Prim.Native.Nat.{ℕ, ◌+◌, ◌-◌, ◌*◌, ◌≤◌, ◌<◌}
use mathlib.Core.Path.{◌≡◌}
use mathlib.Core.List.{List}
use native.Mathlib.Omega.{arith}
use lib.ListN.{length, get_or}
use borrow.Author.Tests.{lt-ltb, le-ltb}
use Rattle.std.specs.Prelude.{Ok, Err}
use Rattle.tasks.specs.declared.refusal.Refusal.TheVariants.{Incomplete, SecondByte}
use Rattle.tasks.specs.Number.{number_in, number_at}
use Rattle.tasks.proofs.number.read_number.Goals as goal

module _ (s : List ℕ) (at : ℕ) where
  ended : length s ≤ at → Err Incomplete ≡ number_at s at
  unfolding number_at number_in
  ended h = rw (le-ltb at (length s) h)

  module _ (here : at < length s) where
    one : get_or s at 0 < 128 → Ok (get_or s at 0, at + 1) ≡ number_at s at
    unfolding number_at number_in
    one h = rw (lt-ltb at (length s) here, le-ltb (get_or s at 0) 0 (omega arith), lt-ltb (get_or s at 0) 128 h)

    module _ (high : 128 ≤ get_or s at 0) where
      cut : length s ≤ at + 1 → Err Incomplete ≡ number_at s at
      unfolding number_at number_in
      cut h =
          rw (lt-ltb at (length s) here, le-ltb (get_or s at 0) 0 (omega arith), le-ltb (get_or s at 0) 128 high, le-ltb (at + 1) (length s) h)

      module _ (there : at + 1 < length s) where
        zero_last : get_or s (at + 1) 0 < 1 → Err SecondByte ≡ number_at s at
        unfolding number_at number_in
        zero_last h =
            rw
            (lt-ltb at (length s) here, le-ltb (get_or s at 0) 0 (omega arith), le-ltb (get_or s at 0) 128 high, lt-ltb (at + 1) (length s) there, lt-ltb (get_or s (at + 1) 0) 1 h)

        two : 1 ≤ get_or s (at + 1) 0 → get_or s (at + 1) 0 < 128 → Ok (get_or s at 0 - 128 + 128 * get_or s (at + 1) 0, at + 1 + 1) ≡ number_at s at
        unfolding number_at number_in
        two h k =
            rw
            (lt-ltb at (length s) here, le-ltb (get_or s at 0) 0 (omega arith), le-ltb (get_or s at 0) 128 high, lt-ltb (at + 1) (length s) there, le-ltb (get_or s (at + 1) 0) 1 h, lt-ltb (get_or s (at + 1) 0) 128 k)

        third : 128 ≤ get_or s (at + 1) 0 → Err SecondByte ≡ number_at s at
        unfolding number_at number_in
        third h =
            rw
            (lt-ltb at (length s) here, le-ltb (get_or s at 0) 0 (omega arith), le-ltb (get_or s at 0) 128 high, lt-ltb (at + 1) (length s) there, le-ltb (get_or s (at + 1) 0) 1 (omega arith), le-ltb (get_or s (at + 1) 0) 128 h)

pub returns-then-s-at : goal.returns-then-s-at
returns-then-s-at c = ended _ _ c.if-s-at.true

pub returns-then-low-lt128 : goal.returns-then-low-lt128
returns-then-low-lt128 c = let a = c.args in let w = c.from-low.ensures in rw w (one a.s.now a.at c.if-s-at.false (rw w at c.if-low-lt128.true))

pub returns-then-s-next : goal.returns-then-s-next
returns-then-s-next c =
    let a = c.args in
    cut a.s.now a.at c.if-s-at.false (rw c.from-low.ensures at c.if-low-lt128.false) c.if-s-next.true

pub returns-then-high-lt1 : goal.returns-then-high-lt1
returns-then-high-lt1 c =
    zero_last c.args.s.now c.args.at c.if-s-at.false
    (rw c.from-low.ensures at c.if-low-lt128.false) c.if-s-next.false (rw c.from-high.ensures at c.if-high-lt1.true)

pub returns-then-high-lt128 : goal.returns-then-high-lt128
returns-then-high-lt128 c =
    let w = c.from-low.ensures in
    let v = c.from-high.ensures in
    rw (w, v)
    (two c.args.s.now c.args.at c.if-s-at.false
    (rw w at c.if-low-lt128.false) c.if-s-next.false (rw v at c.if-high-lt1.false) (rw v at c.if-high-lt128.true))

pub returns : goal.returns
returns c =
    third c.args.s.now c.args.at c.if-s-at.false
    (rw c.from-low.ensures at c.if-low-lt128.false) c.if-s-next.false (rw c.from-high.ensures at c.if-high-lt128.false)
