use mathlib.Core.Path.{◌≡◌, refl, ◌∙◌}
use mathlib.Core.Bool.{true, false}
use Prim.Native.Nat.{◌+◌, ◌<◌}
use borrow.Author.Tests.{leb-false, eqb-false}
use lib.Dec.{leb, eqb}
use Rattle.lists.proofs.Bools.{nor_left, nor_right}
use Rattle.closed.proofs.PendingLaws.{waiting_start, waiting_next, waiting_held, waiting_end, waiting_open}
use native.Mathlib.Omega.{arith}
use borrow.Author.Rules.{rules}
use Rattle.closed.proofs.passes.rows_inside.Goals as goal
use Rattle.closed.proofs.passes.rows_inside.Goals.{then-count-row+else-not-all_held, else-count-row}

pub loop-row-init : goal.loop-row-init
loop-row-init c =
    (search rules, omega arith, λ l. refl, waiting_start _ _ _ _ _ _)

pub row_pending-count-requires : goal.row_pending-count-requires
row_pending-count-requires c =
    let p = c.requires in
    let l = c.loop-row in
    let b : l.row < c.args.file.n = omega arith in
    (p.given, b, (p.sound.state l.row (rw p.given.is at b)).proper, omega (arith, l.invariant.0, l.invariant.1))

pub returns-then-not-all_held : goal.returns-then-not-all_held
returns-then-not-all_held c =
    let a = c.args in
    let none : c.all_held.result ≡ false = c.if-not-all_held.true in
    waiting_open a.ticking.table a.file.bytes.now a.file.n c.requires.given.valid c.requires.given.is
    (waiting_next a.ticking.table a.file.bytes.now a.file.n a.split a.pass c.loop-row.invariant.3 c.row_pending-count.ensures.1) (rw none at c.all_held.ensures)

pub loop-row-preserved : goal.loop-row-preserved
loop-row-preserved c =
    let a = c.args in
    let l = c.loop-row in
    let r = c.row_pending-count in
    let next = waiting_next a.ticking.table a.file.bytes.now a.file.n a.split a.pass c.loop-row.invariant.3 r.ensures.1 in
    elim c.if-count-row.branch [
      | then-count-row+else-not-all_held w ↦
          (let yes : w.all_held.result ≡ true = w.if-not-all_held.false in
          (r.ensures.1.grown.same ∙ c.loop-row.invariant.0, omega arith, λ e. w.count-is, rw w.count-is (waiting_held a.ticking.table a.file.bytes.now a.file.n next (rw yes at w.all_held.ensures))))
      | else-count-row w ↦
          (let few = leb-false 64 r.result (nor_left (leb 64 r.result) (eqb (l.row + 1) a.file.n) w.if-count-row.false) in
          let more = eqb-false (l.row + 1) a.file.n (nor_right (leb 64 r.result) (eqb (l.row + 1) a.file.n) w.if-count-row.false) in
          let b : l.row < a.file.n = omega arith in
          (r.ensures.1.grown.same ∙ c.loop-row.invariant.0, omega (arith, few, w.count-is), λ e. absurd (more (omega arith)), rw w.count-is next))
    ]

pub returns : goal.returns
returns c =
    let a = c.args in
    let p = c.requires in
    let z = c.loop-row.invariant.2 (omega arith) in
    waiting_end a.ticking.table a.file.bytes.now a.file.n a.split a.pass true p.given.valid p.given.is (omega arith) c.loop-row.invariant.3 (record { each = λ k h. absurd (omega (arith, z)) })
