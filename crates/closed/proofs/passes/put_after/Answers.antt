-- A key that is due is put behind the others. Assumes nothing.
use mathlib.Core.Path.{ap, ◌∙◌}
use Rattle.tasks.specs.Words.{state_of}
use Rattle.tasks.specs.Ticker.{ticked_by}
use Rattle.lists.proofs.Bools.{clash}
use Rattle.states.specs.Keys.{key_of}
use Rattle.states.proofs.WordLaws.{word_bytes}
use Rattle.closed.specs.Keeping.{class_of}
use Rattle.closed.proofs.PendingLaws.{after_not, after_added, key_put}
use native.Mathlib.Omega.{arith}
use borrow.Author.Rules.{rules}
use Rattle.closed.proofs.passes.put_after.Goals as goal

pub returns-then-not-due : goal.returns-then-not-due
returns-then-not-due c =
    let a = c.args in
    (omega arith, after_not a.pass a.due (state_of (ticked_by a.ticker a.state a.mask)) a.pending.now a.count (λ due is. clash due (c.if-not-due.true)))

pub returns-then-class_of-pass : goal.returns-then-class_of-pass
returns-then-class_of-pass c =
    let a = c.args in
    let v = c.after.result in
    rw (← c.after.ensures)
    (omega arith, after_added a.pass a.due (state_of v) (word_bytes v (λ k b. search rules)) c.key_of-key.ensures (key_put a.pending.now a.count c.key_of-key.result c.requires))

pub returns : goal.returns
returns c =
    let a = c.args in (
      omega arith,
      after_not a.pass a.due (state_of (ticked_by a.ticker a.state a.mask)) a.pending.now a.count
          (λ due is. c.if-class_of-pass.false
          (c.class_of.ensures ∙ ap (class_of a.pass.classes) c.key_of-key.ensures
          ∙ ap (λ v. class_of a.pass.classes (key_of (state_of v))) c.after.ensures ∙ is)),
    )
