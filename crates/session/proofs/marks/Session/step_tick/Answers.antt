use mathlib.Core.Path.{sym, ◌∙◌}
use borrow.Author.Tests.{lt-ltb}
use Rattle.tasks.proofs.Refusals.{refused_unless, accepted_unless}
use Rattle.session.specs.Session.{session_fault, step_tick}
use Rattle.session.proofs.marks.Session.step_tick.Goals as goal

pub returns-in-Err : goal.returns-in-Err
unfolding step_tick
returns-in-Err c =
    let n = session_fault c.args.t c.args.self in
    let f = refused_unless n tt (sym c.check.ensures ∙ c.in-Err.is) in
    rw (lt-ltb 0 n f.0, f.1)

pub returns : goal.returns
unfolding step_tick
returns c =
    let f = accepted_unless (session_fault c.args.t c.args.self) tt (sym c.check.ensures ∙ c.in_default.is) in
    rw f.0 c.tick.ensures
