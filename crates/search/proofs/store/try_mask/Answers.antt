-- The successor is known, or is pushed as a new slot, or there is no slot left for it. Assumes nothing.
use mathlib.Core.Path.{refl}
use mathlib.Core.Logic.◌⊎◌.{inl, inr}
use native.Mathlib.Omega.{arith}
use Rattle.search.proofs.store.try_mask.Goals as goal

pub returns-then-holds : goal.returns-then-holds
returns-then-holds c =
    inl (
      refl,
      record {
        held = rw c.after-next.ensures at (rw c.if-holds.true at c.holds.ensures);
        same = refl;
        same_heads = refl;
      },
    )

pub returns-then-n-k : goal.returns-then-n-k
returns-then-n-k c =
    record {
      full = c.if-n-k.true;
      absent = rw c.after-next.ensures at (rw c.if-holds.false at c.holds.ensures);
      same = refl;
    }

pub returns : goal.returns
returns c =
    let ne = c.if-n-k.false in
    let r = c.requires.room in
    inr (
      refl,
      record {
        below = omega arith;
        absent = rw c.after-next.ensures at (rw c.if-holds.false at c.holds.ensures);
        pushed = rw c.after-next.ensures at c.push.ensures;
      },
    )
