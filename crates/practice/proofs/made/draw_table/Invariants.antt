-- The invariant: the first i tasks are drawn, and s is the last draw. Assumes nothing.
use Rattle.practice.proofs.DrawLaws.{Drawing}
use Rattle.practice.proofs.made.draw_table.Given as goal

abbrev pub invariant-loop-i : goal.invariant-loop-i
invariant-loop-i l = Drawing l.policy l.m l.n l.seed l.t l.s l.i
