use mathlib.Core.Path.{◌≡◌}
use Rattle.session_bytes.specs.Space.{marks_written}
use Rattle.session_bytes.proofs.write.put_marks.Given as goal

abbrev pub invariant-loop-i : goal.invariant-loop-i
invariant-loop-i l = l.space ≡ marks_written l.x l.i l.initial.space
