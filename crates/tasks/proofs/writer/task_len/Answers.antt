-- The lengths of the three numbers add up. Assumes nothing.
use Rattle.tasks.specs.Sheet.{task_bytes}
use lib.ListN.{length-append}
use native.Mathlib.Omega.{arith}
use Rattle.tasks.proofs.writer.task_len.Goals as goal

pub returns : goal.returns
unfolding task_bytes
returns c =
    (simp length-append (omega arith), omega arith)
