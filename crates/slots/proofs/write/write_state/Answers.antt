-- A space that is too short, or the state's words at its front. Assumes nothing.
use Rattle.tasks.specs.Words.{state_of}
use Rattle.tasks.proofs.InWords.{StateBytes, words_state}
use Rattle.states.specs.Bytes.{state_bytes}
use Rattle.slots.proofs.WriteLaws.{space_short, space_room}
use lib.Seq.{sets}
use mathlib.Core.Path.{◌≡◌, sym, ap, ◌∙◌}
use borrow.Author.Rules.{rules}
use Rattle.slots.proofs.write.write_state.Goals as goal

pub returns-then-out-lt16 : goal.returns-then-out-lt16
returns-then-out-lt16 c =
    let a = c.args in
    let w = space_short a.s a.out.now c.if-out-lt16.true in
    (sym w.0, sym w.1)

pub returns : goal.returns
returns c =
    let a = c.args in
    let w = space_room a.s a.out.now c.if-out-lt16.false in
    let bytes : StateBytes a.s = record { c_length = search rules; p_length = search rules; c = λ i h. search rules; p = λ i h. search rules } in
    let words : state_of c.words.result ≡ a.s = ap state_of c.words.ensures ∙ words_state a.s bytes in
    (sym w.0, c.put_state.ensures ∙ ap (λ s. sets a.out.now 0 (state_bytes s)) words ∙ sym w.1)
