use lib.ListN.{get_or}
use Rattle.std.specs.Prelude.{None}
use Rattle.std.proofs.Common.{rules}
use Rattle.session.specs.Session.{improper_mark}
use Rattle.session.proofs.MarkLaws.{stored_tested}
use Rattle.session.proofs.marks.Session.improper_mark.Goals as goal

pub returns : goal.returns
unfolding improper_mark
returns c =
    let a = c.args in
    stored_tested a.t (get_or a.self.marks a.i None) (λ s h. search rules) c.is_some_and.ensures
