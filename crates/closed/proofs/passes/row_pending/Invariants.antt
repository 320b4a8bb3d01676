-- The invariant: the keys of the states after the masks passed that are due wait. Assumes nothing.
use Prim.Native.Nat.{◌+◌, ◌≤◌}
use mathlib.Core.Path.{◌≡◌}
use lib.ListN.{length}
use Rattle.tasks.specs.Masks.{free_mask}
use Rattle.states.specs.Bytes.{state_in}
use Rattle.states.specs.Masks.{place}
use Rattle.closed.proofs.RowLaws.{RowTo}
use Rattle.closed.proofs.passes.row_pending.Given as goal

abbrev pub invariant-loop-mask : goal.invariant-loop-mask
invariant-loop-mask l =
    (goal.iterator-loop-mask).can_next l.mask-iterator × (goal.iterator-loop-mask).is_finite l.mask-iterator
    × (l.c ≤ l.count + place l.mask-iterator.next) × (length l.pending ≡ length l.initial.pending) × (l.mask-iterator.free ≡ free_mask l.fn.ticking.table (state_in l.file.bytes.now l.i))
    × RowTo l.ticker l.file.bytes.now l.file.n l.split l.pass l.kept l.released l.state l.mask-iterator.free l.initial.pending l.count l.pending l.c (place l.mask-iterator.next)
