-- The table is refused, or it is valid and is searched. Assumes nothing.
use mathlib.Core.Path.{◌≡◌, sym, ◌∙◌}
use native.Mathlib.Omega.{arith}
use Rattle.std.proofs.Common.{rules}
use Rattle.std.specs.Prelude.{Err}
use Rattle.tasks.specs.Table.{table_fault}
use Rattle.tasks.proofs.Refusals.{refusal_some, refused_unless, accepted_unless, refused_number}
use Rattle.tasks.proofs.Tables.{fault_number}
use Rattle.search.specs.Claim.{slots_in}
use Rattle.search.proofs.ClaimLaws.{table_fault_lem, table_valid, refused_search}
use Rattle.search.proofs.search.search_table.Goals as goal

pub invariant_of-search_valid : goal.invariant_of-search_valid
invariant_of-search_valid c = record { sound = (accepted_unless (table_fault c.args.t) tt (sym c.check.ensures ∙ c.in_ok-check.was)).0 }

pub returns-in_err-check : goal.returns-in_err-check
returns-in_err-check c =
    let a = c.args in
    let r : c.from_residual.result ≡ Err c.in_err-check.field-0.0 = search rules in
    let e = sym c.check.ensures ∙ c.in_err-check.was in
    let number = refused_number (table_fault a.t) (tt {0}) (fault_number a.t) e in
    let some = (refused_unless (table_fault a.t) (tt {0}) e).0 in
    rw r (refused_search (table_fault_lem (slots_in a.work.now) a.trace.now a.t some ∙ number) (refusal_some c.in_err-check.field-0.0))

pub returns : goal.returns
returns c =
    let a = c.args in
    let valid = (accepted_unless (table_fault a.t) tt (sym c.check.ensures ∙ c.in_ok-check.was)).0 in
    rw (table_valid (slots_in a.work.now) a.trace.now a.t (omega (arith, valid))) c.search_valid.ensures
