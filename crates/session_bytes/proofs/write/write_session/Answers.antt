use mathlib.Core.Path.{ap, ◌∙◌}
use lib.ListN.{set}
use lib.Seq.{sets}
use Rattle.states.specs.Bytes.{state_bytes}
use Rattle.session_bytes.specs.Space.{marks_written, session_written}
use Rattle.session_bytes.proofs.write.write_session.Goals as goal

pub returns : goal.returns
unfolding session_written
returns c =
    let a = c.args in
    c.put_marks.ensures
    ∙ ap (marks_written a.x 8)
    (c.put_state.ensures ∙ ap (λ n. sets (set a.space.now 0 n) 1 (state_bytes a.x.present)) c.flags.ensures)
