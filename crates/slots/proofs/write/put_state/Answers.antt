use mathlib.Core.Path.{◌≡◌, sym, ◌∙◌}
use lib.ListN.{length-set}
use Rattle.tasks.proofs.InWords.{work_word, gap_word}
use Rattle.states.specs.Bytes.{state_bytes}
use Rattle.slots.proofs.WriteLaws.{put_turn}
use native.Mathlib.Omega.{arith}
use Rattle.slots.proofs.write.put_state.Goals as goal

pub loop-k-preserved : goal.loop-k-preserved
loop-k-preserved c =
    let v = c.args.v in
    let k = c.loop-k.k in
    (rw (c.work_in.ensures ∙ sym (work_word v k (omega arith)), c.gap_in.ensures ∙ sym (gap_word v k (omega arith))) (put_turn _ _ _ _ _ (omega arith) c.loop-k.invariant.0), simp length-set (omega arith))

pub returns : goal.returns
unfolding state_bytes
returns c = let left = c.loop-k-test.false in let e : c.loop-k.k ≡ 8 = omega arith in rw e at c.loop-k.invariant.0
