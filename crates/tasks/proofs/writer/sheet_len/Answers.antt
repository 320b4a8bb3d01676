-- The lengths of the parts add up. Assumes nothing.
use Rattle.tasks.specs.Sheet.{sheet_bytes}
use lib.ListN.{length-append}
use native.Mathlib.Omega.{arith}
use Rattle.tasks.proofs.writer.sheet_len.Goals as goal

pub returns : goal.returns
unfolding sheet_bytes
returns c = simp length-append (omega arith)
