use mathlib.Core.Path.{◌≡◌}
use Rattle.std.specs.Prelude.{is_some}
use Rattle.lists.specs.Lists.{bits_of}
use Rattle.session.specs.Session.{mark_in}
use Rattle.session_bytes.proofs.write.flags.Given as goal

abbrev pub invariant-loop-i : goal.invariant-loop-i
invariant-loop-i l = l.flags ≡ bits_of l.i (λ k. is_some (mark_in l.fn.x k))
