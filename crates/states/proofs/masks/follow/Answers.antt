-- The next legal mask, or none after the last. Assumes nothing.
use Rattle.std.proofs.Common.{sym, ◌∙◌, rules}
use Rattle.states.proofs.MaskLaws.{follows_end, follows_on}
use Rattle.states.proofs.masks.follow.Goals as goal

pub returns-in-0 : goal.returns-in-0
returns-in-0 c = follows_end _ _ (sym c.next_mask.ensures ∙ c.in-0.is)

pub returns-in_default : goal.returns-in_default
returns-in_default c = follows_on _ _ c.next_mask.ensures (search rules)
