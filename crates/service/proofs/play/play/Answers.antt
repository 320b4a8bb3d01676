use mathlib.Core.Path.{sym, ◌∙◌}
use Rattle.service.proofs.Playing.{playing_start, playing_room, playing_kept, playing_refused, playing_missed, playing_next}
use borrow.Author.Rules.{rules}
use Rattle.service.proofs.play.play.Goals as goal

pub loop-i-init : goal.loop-i-init
loop-i-init c = rw c.start-s.ensures (playing_start _ _)

pub raised-more-requires : goal.raised-more-requires
raised-more-requires c = (playing_room _ _ c.loop-i.invariant c.loop-i-test.true (search rules)).0

pub returns-then-illegal : goal.returns-then-illegal
returns-then-illegal c =
    c.account_of.ensures
    ∙ playing_refused _ _ c.args.valid.sound c.loop-i.invariant c.loop-i-test.true (sym c.illegal.ensures ∙ c.if-illegal.true)

pub raised-longer-requires : goal.raised-longer-requires
raised-longer-requires c = (playing_room _ _ c.loop-i.invariant c.loop-i-test.true (search rules)).1

pub returns-then-missed : goal.returns-then-missed
returns-then-missed c =
    c.account_of-then-missed.ensures
    ∙ playing_missed _ _ c.args.valid.sound c.loop-i.invariant c.loop-i-test.true (sym c.illegal.ensures ∙ c.if-illegal.false)
    c.named.ensures c.raised-more.ensures c.release-released.ensures c.choose-run.ensures c.raised-longer.ensures c.run-next.ensures
    (sym c.missed.ensures ∙ c.if-missed.true)

pub loop-i-preserved : goal.loop-i-preserved
loop-i-preserved c =
    playing_next _ _ c.args.valid.sound c.loop-i.invariant c.loop-i-test.true (sym c.illegal.ensures ∙ c.if-illegal.false)
    c.named.ensures c.raised-more.ensures c.release-released.ensures c.choose-run.ensures c.raised-longer.ensures c.run-next.ensures
    (sym c.missed.ensures ∙ c.if-missed.false)

pub returns : goal.returns
returns c = c.account_of-2.ensures ∙ playing_kept _ _ c.args.valid.sound c.loop-i.invariant c.loop-i-test.false
