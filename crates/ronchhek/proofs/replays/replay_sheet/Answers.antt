-- Each exit is one of the ways of ReplayLaws. Assumes nothing.
use mathlib.Core.Path.{◌≡◌, sym, ap, ◌∙◌}
use native.Mathlib.Omega.{arith}
use Rattle.std.proofs.Common.{rules}
use Rattle.std.specs.Prelude.{Err}
use Rattle.tasks.specs.declared.play.Replayed.{Replayed}
use Rattle.slots.specs.StateSpace.{state_space}
use Rattle.ronchhek.specs.Replays.{outcome_of}
use Rattle.ronchhek.proofs.ReplayLaws.{not_written, written_room, unread_number, long_number, refused_number, unwritten_number, played_number, unread_space, long_space, refused_space, played_space}
use Rattle.ronchhek.proofs.replays.replay_sheet.Goals as goal

pub returns-in_err-table : goal.returns-in_err-table
returns-in_err-table c =
    let a = c.args in
    let r : c.from_residual.result ≡ Err (record { why = c.in_err-table.field-0.0; tick = 0 }) = search rules in
    let refused = sym c.read_sheet.ensures ∙ c.in_err-table.was in
    record {
      number = rw r (unread_number 16 a.sheet.now a.list.now a.state.now refused);
      few = rw r (omega arith);
      space = unread_space a.sheet.now a.list.now a.state.now refused;
    }

pub returns-then-list-ge-TICKS : goal.returns-then-list-ge-TICKS
returns-then-list-ge-TICKS c =
    let a = c.args in
    let read = sym c.read_sheet.ensures ∙ c.in_ok-table.was in
    let long = c.if-list-ge-TICKS.true in
    record {
      number = rw c.into.ensures (long_number 16 a.sheet.now a.list.now a.state.now read long);
      few = rw c.into.ensures (omega arith);
      space = long_space a.sheet.now a.list.now a.state.now read long;
    }

pub returns-in_err-outcome : goal.returns-in_err-outcome
returns-in_err-outcome c =
    let a = c.args in
    let r : c.from_residual-in_err-outcome.result ≡ Err c.in_err-outcome.field-0.0 = search rules in
    let read = sym c.read_sheet.ensures ∙ c.in_ok-table.was in
    let short = c.if-list-ge-TICKS.false in
    let refused = ap (λ (x : Replayed). outcome_of x.answer) (sym c.replay-played.ensures.0) ∙ sym c.outcome_of.ensures.0 ∙ c.in_err-outcome.was in
    record {
      number = rw r (refused_number 16 a.sheet.now a.list.now a.state.now read short refused);
      few = rw r (omega (arith, rw c.in_err-outcome.was at c.outcome_of.ensures.1, c.replay-played.ensures.1));
      space = refused_space a.sheet.now a.list.now a.state.now read short refused;
    }

pub returns-in_err-write_state : goal.returns-in_err-write_state
returns-in_err-write_state c =
    let a = c.args in
    let r : c.from_residual-in_err-write_state.result ≡ Err (record { why = c.in_err-write_state.field-0.0; tick = 0 }) = search rules in
    let read = sym c.read_sheet.ensures ∙ c.in_ok-table.was in
    let short = c.if-list-ge-TICKS.false in
    let played = ap (λ (x : Replayed). outcome_of x.answer) (sym c.replay-played.ensures.0) ∙ sym c.outcome_of.ensures.0 ∙ c.in_ok-outcome.was in
    let none = not_written 16 a.state.now (sym c.write_state.ensures.0 ∙ c.in_err-write_state.was) in
    record {
      number = rw (r, none.1) (unwritten_number 16 a.sheet.now a.list.now a.state.now read short played none.0);
      few = rw r (omega arith);
      space = c.write_state.ensures.1 ∙ ap (λ (x : Replayed). state_space x.state a.state.now) c.replay-played.ensures.0 ∙ played_space a.sheet.now a.list.now a.state.now read short played;
    }

pub returns : goal.returns
returns c =
    let a = c.args in
    let read = sym c.read_sheet.ensures ∙ c.in_ok-table.was in
    let short = c.if-list-ge-TICKS.false in
    let played = ap (λ (x : Replayed). outcome_of x.answer) (sym c.replay-played.ensures.0) ∙ sym c.outcome_of.ensures.0 ∙ c.in_ok-outcome.was in
    let room = written_room 16 a.state.now (sym c.write_state.ensures.0 ∙ c.in_ok-write_state.was) in
    record {
      number = played_number 16 a.sheet.now a.list.now a.state.now read short played room;
      few = omega (arith, rw c.in_ok-outcome.was at c.outcome_of.ensures.1, c.replay-played.ensures.1);
      space = c.write_state.ensures.1 ∙ ap (λ (x : Replayed). state_space x.state a.state.now) c.replay-played.ensures.0 ∙ played_space a.sheet.now a.list.now a.state.now read short played;
    }
