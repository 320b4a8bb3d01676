-- Each exit is one of the ways of ReplayLaws, and leaves the totals. Assumes nothing.
use mathlib.Core.Path.{◌≡◌, sym, ap, ◌∙◌}
use native.Mathlib.Omega.{arith}
use Rattle.std.proofs.Common.{rules}
use Rattle.std.specs.Prelude.{Err}
use Rattle.service.specs.Totals.{account_of}
use Rattle.service.specs.declared.totals.Account.{Account}
use Rattle.service.specs.Bytes.{totals_space}
use Rattle.ronchhek.specs.Replays.{outcome_of}
use Rattle.ronchhek.proofs.ReplayLaws.{not_written, written_room, unread_number, long_number, refused_number, unwritten_number, played_number}
use Rattle.ronchhek.proofs.ServiceLaws.{unread_totals, long_totals, totals_written}
use Rattle.ronchhek.proofs.services.service_sheet.Goals as goal

pub returns-in_err-table : goal.returns-in_err-table
returns-in_err-table c =
    let a = c.args in
    let r : c.from_residual.result ≡ Err (record { why = c.in_err-table.field-0.0; tick = 0 }) = search rules in
    let refused = sym c.read_sheet.ensures ∙ c.in_err-table.was in
    record {
      number = rw r (unread_number 192 a.sheet.now a.list.now a.totals.now refused);
      few = rw r (omega arith);
      space = unread_totals a.sheet.now a.list.now a.totals.now refused;
    }

pub returns-then-list-ge-TICKS : goal.returns-then-list-ge-TICKS
returns-then-list-ge-TICKS c =
    let a = c.args in
    let read = sym c.read_sheet.ensures ∙ c.in_ok-table.was in
    let long = c.if-list-ge-TICKS.true in
    record {
      number = rw c.into.ensures (long_number 192 a.sheet.now a.list.now a.totals.now read long);
      few = rw c.into.ensures (omega arith);
      space = long_totals a.sheet.now a.list.now a.totals.now read long;
    }

pub returns-in_err-outcome : goal.returns-in_err-outcome
unfolding account_of
returns-in_err-outcome c =
    let a = c.args in
    let r : c.from_residual-in_err-outcome.result ≡ Err c.in_err-outcome.field-0.0 = search rules in
    let read = sym c.read_sheet.ensures ∙ c.in_ok-table.was in
    let short = c.if-list-ge-TICKS.false in
    let account = c.service-account.ensures in
    let refused = ap (λ (x : Account). outcome_of x.replayed.answer) (sym account.0) ∙ sym c.outcome_of.ensures.0 ∙ c.in_err-outcome.was in
    let left = ap (λ (x : Account). totals_space x.totals a.totals.now) account.0 ∙ totals_written a.sheet.now a.list.now a.totals.now read (λ i. omega (arith, c.type_inv.sheet i)) short in
    record {
      number = rw r (refused_number 192 a.sheet.now a.list.now a.totals.now read short refused);
      few = rw r (omega (arith, rw c.in_err-outcome.was at c.outcome_of.ensures.1, account.2));
      space = c.write_totals-written.ensures.1 ∙ left;
    }

pub returns-in_err-written : goal.returns-in_err-written
unfolding account_of
returns-in_err-written c =
    let a = c.args in
    let r : c.from_residual-in_err-written.result ≡ Err (record { why = c.in_err-written.field-0.0; tick = 0 }) = search rules in
    let read = sym c.read_sheet.ensures ∙ c.in_ok-table.was in
    let short = c.if-list-ge-TICKS.false in
    let account = c.service-account.ensures in
    let played = ap (λ (x : Account). outcome_of x.replayed.answer) (sym account.0) ∙ sym c.outcome_of.ensures.0 ∙ c.in_ok-outcome.was in
    let left = ap (λ (x : Account). totals_space x.totals a.totals.now) account.0 ∙ totals_written a.sheet.now a.list.now a.totals.now read (λ i. omega (arith, c.type_inv.sheet i)) short in
    let none = not_written 192 a.totals.now (sym c.write_totals-written.ensures.0 ∙ c.in_err-written.was) in
    record {
      number = rw (r, none.1) (unwritten_number 192 a.sheet.now a.list.now a.totals.now read short played none.0);
      few = rw r (omega arith);
      space = c.write_totals-written.ensures.1 ∙ left;
    }

pub returns : goal.returns
unfolding account_of
returns c =
    let a = c.args in
    let read = sym c.read_sheet.ensures ∙ c.in_ok-table.was in
    let short = c.if-list-ge-TICKS.false in
    let account = c.service-account.ensures in
    let played = ap (λ (x : Account). outcome_of x.replayed.answer) (sym account.0) ∙ sym c.outcome_of.ensures.0 ∙ c.in_ok-outcome.was in
    let left = ap (λ (x : Account). totals_space x.totals a.totals.now) account.0 ∙ totals_written a.sheet.now a.list.now a.totals.now read (λ i. omega (arith, c.type_inv.sheet i)) short in
    let room = written_room 192 a.totals.now (sym c.write_totals-written.ensures.0 ∙ c.in_ok-written.was) in
    record {
      number = played_number 192 a.sheet.now a.list.now a.totals.now read short played room;
      few = omega (arith, rw c.in_ok-outcome.was at c.outcome_of.ensures.1, account.2);
      space = c.write_totals-written.ensures.1 ∙ left;
    }
