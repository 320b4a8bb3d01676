use mathlib.Core.Path.{◌∙◌}
use Rattle.session_bytes.proofs.SpaceLaws.{marks_none, marks_turn}
use Rattle.session_bytes.proofs.write.put_marks.Goals as goal

pub loop-i-init : goal.loop-i-init
loop-i-init c = marks_none c.args.x c.args.space.now

pub loop-i-preserved : goal.loop-i-preserved
loop-i-preserved c =
    let a = c.args in
    let l = c.loop-i in
    c.put_mark.ensures ∙ marks_turn a.x l.i a.space.now l.invariant
