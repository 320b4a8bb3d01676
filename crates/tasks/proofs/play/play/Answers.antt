use mathlib.Core.Path.{sym, ◌∙◌}
use native.Mathlib.Omega.{arith}
use Rattle.tasks.proofs.Played.{played_refused, played_missed, played_next, played_end}
use Rattle.tasks.proofs.play.play.Goals as goal

pub returns-then-illegal : goal.returns-then-illegal
returns-then-illegal c =
    sym
    (c.loop-i.invariant.1
    ∙ played_refused c.args.valid.table c.args.valid.sound c.loop-i.s c.loop-i.invariant.0 c.args.masks.now c.loop-i.i (omega arith) (sym c.illegal.ensures ∙ c.if-illegal.true))

pub returns-then-missed : goal.returns-then-missed
returns-then-missed c =
    let legal = sym c.illegal.ensures ∙ c.if-illegal.false in
    sym
    (c.loop-i.invariant.1
    ∙ played_missed c.args.valid.table c.args.valid.sound c.loop-i.s c.loop-i.invariant.0 c.args.masks.now c.loop-i.i (omega arith) legal c.release-released.ensures c.choose-run.ensures c.run-next.ensures (sym c.missed.ensures ∙ c.if-missed.true))

pub loop-i-preserved : goal.loop-i-preserved
loop-i-preserved c =
    let legal = sym c.illegal.ensures ∙ c.if-illegal.false in
    let next = played_next c.args.valid.table c.args.valid.sound c.loop-i.s c.loop-i.invariant.0 c.args.masks.now c.loop-i.i (omega arith) legal c.release-released.ensures c.choose-run.ensures c.run-next.ensures (sym c.missed.ensures ∙ c.if-missed.false) in
    (next.0, c.loop-i.invariant.1 ∙ next.1)

pub returns : goal.returns
returns c = sym (c.loop-i.invariant.1 ∙ played_end c.args.valid.table c.loop-i.s c.args.masks.now c.loop-i.i (omega arith))
