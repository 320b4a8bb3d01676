-- The sheet is refused, or its table, which is valid, is searched. Assumes nothing.
use mathlib.Core.Path.{◌≡◌, sym, ◌∙◌}
use native.Mathlib.Omega.{arith}
use Rattle.std.proofs.Common.{rules}
use Rattle.std.specs.Prelude.{Ok, Err}
use Rattle.tasks.specs.Sheet.{sheet_of}
use Rattle.tasks.proofs.Refusals.{refusal_some}
use Rattle.tasks.proofs.RoundTrip.{read_valid}
use Rattle.search.specs.Claim.{slots_in}
use Rattle.search.proofs.ClaimLaws.{sheet_fault, sheet_read, refused_search}
use Rattle.search.proofs.search.search_sheet.Goals as goal

pub invariant_of-search_valid : goal.invariant_of-search_valid
invariant_of-search_valid c =
    let known = c.type_inv.sheet in
    let e : sheet_of c.args.sheet.now ≡ Ok c.in_ok-t.t = search rules in
    record { sound = read_valid c.args.sheet.now (λ i. omega (arith, known i)) c.in_ok-t.t e }

pub returns-in_err-t : goal.returns-in_err-t
returns-in_err-t c =
    let a = c.args in
    let r : c.from_residual.result ≡ Err c.in_err-t.field-0.0 = search rules in
    let e : sheet_of a.sheet.now ≡ Err c.in_err-t.field-0.0 = search rules in
    rw r (refused_search (sheet_fault (slots_in a.work.now) a.trace.now a.sheet.now e) (refusal_some c.in_err-t.field-0.0))

pub returns : goal.returns
returns c =
    let a = c.args in
    let e : sheet_of a.sheet.now ≡ Ok c.in_ok-t.t = search rules in
    rw (sheet_read (slots_in a.work.now) a.trace.now a.sheet.now e, e) c.search_valid.ensures
