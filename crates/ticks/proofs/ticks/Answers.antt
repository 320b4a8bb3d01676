use Rattle.std.proofs.Common.{◌≡◌, ℕ, zero, suc, ◌<◌, refl, arith, lt-ltb}
use Rattle.ticks.specs.Ticks.{tick_of, ticks_sum}
use Rattle.ticks.proofs.Sums.{pairs_room, sum_start, sum_first, sum_turn, sum_end}
use Rattle.ticks.proofs.ticks.Goals as goal

above : (n : ℕ) → (n ≡ 0 → ⊥) → 0 < n
above zero d = absurd (d refl)
above (suc n) d = omega arith

pub returns-then-table-lt27 : goal.returns-then-table-lt27
unfolding ticks_sum
returns-then-table-lt27 c = rw (lt-ltb _ _ c.if-table-lt27.true)

pub returns-then-n-eq0 : goal.returns-then-n-eq0
returns-then-n-eq0 c =
    sum_end _ _ _ _ 0 (sum_start _ _ _) (omega arith) (omega arith) c.pairs-n.ensures c.table_of-t.ensures (omega arith)

pub state_at-requires : goal.state_at-requires
state_at-requires c =
    (pairs_room _ _ 0 (rw c.pairs-n.ensures at (above _ c.if-n-eq0.false))).0

pub bounds-masks-0 : goal.bounds-masks-0
bounds-masks-0 c =
    (pairs_room _ _ 0 (rw c.pairs-n.ensures at (above _ c.if-n-eq0.false))).1

pub loop-k-init : goal.loop-k-init
unfolding tick_of
loop-k-init c =
    sum_first _ _ _ (rw (c.figure-sum.ensures, c.ticked-first.ensures, c.ticker-ticker.ensures, c.state_at.ensures)) (omega (arith, c.figure-sum.type_inv))

pub state_at-requires-in-loop-k : goal.state_at-requires-in-loop-k
state_at-requires-in-loop-k c =
    (pairs_room _ _ _ (rw c.pairs-n.ensures at (let b : c.loop-k.k < c.pairs-n.result = omega arith in b))).0

pub bounds-masks-k : goal.bounds-masks-k
bounds-masks-k c =
    (pairs_room _ _ _ (rw c.pairs-n.ensures at (let b : c.loop-k.k < c.pairs-n.result = omega arith in b))).1

pub loop-k-preserved : goal.loop-k-preserved
unfolding tick_of
loop-k-preserved c =
    sum_turn _ _ _ _ c.loop-k.invariant (rw (c.figure-sum-in-loop-k.ensures, c.ticked-after.ensures, c.ticker-ticker.ensures, c.state_at-in-loop-k.ensures))

pub returns : goal.returns
returns c =
    sum_end _ _ _ _ c.loop-k.k c.loop-k.invariant (omega arith) (omega arith) c.pairs-n.ensures c.table_of-t.ensures (omega arith)
