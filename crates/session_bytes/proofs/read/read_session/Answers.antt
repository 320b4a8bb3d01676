use mathlib.Core.Path.{ap₂}
use Rattle.std.proofs.Common.{rules}
use Rattle.lists.proofs.Made.{made}
use Rattle.session_bytes.specs.Space.{mark_from, session_from}
use Rattle.session_bytes.proofs.read.read_session.Goals as goal

pub returns : goal.returns
unfolding session_from
returns c =
    ap₂ (λ s marks. record { present = s; marks = marks }) c.state_at.ensures
    (made _ (mark_from c.args.space.now) (λ i y q l k. search rules) c.from_fn.ensures.items)
