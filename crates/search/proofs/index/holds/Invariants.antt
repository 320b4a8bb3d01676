-- The invariant: a walk along the chain for the key stands at cur.
use lib.ListN.{length}
use Rattle.levels.proofs.Index.{Walk}
use Rattle.states.specs.Keys.{key_in}
use Rattle.search.specs.Indexed.{bucket_for}
use Rattle.search.proofs.index.holds.Given as goal

abbrev pub invariant-loop-j : goal.invariant-loop-j
invariant-loop-j l = Walk (bucket_for (length l.heads)) (key_in l.work) l.n l.key l.cur

abbrev pub decreases-loop-j : goal.decreases-loop-j
decreases-loop-j l = l.cur
