-- The invariant: the successors under the masks passed are stored. Assumes nothing.
use mathlib.Core.Path.{◌≡◌}
use lib.ListN.{length}
use Rattle.tasks.specs.Ticker.{ticker_of}
use Rattle.tasks.specs.declared.table.Table.{Table}
use Rattle.states.specs.Masks.{place}
use Rattle.search.specs.Keeping.{RowReady}
use Rattle.search.proofs.StoreLaws.{RowBy}
use Rattle.search.proofs.store.store_row.Given as goal

abbrev pub invariant-loop-mask : goal.invariant-loop-mask
invariant-loop-mask l =
    (goal.iterator-loop-mask).can_next l.mask-iterator × (goal.iterator-loop-mask).is_finite l.mask-iterator
    × (length l.heads ≡ length l.initial.heads)
    × ((t : Table) → l.ticker ≡ ticker_of t → RowReady t l.k l.initial.work l.initial.heads l.from l.i → RowBy t l.ticker l.state l.k l.initial.work l.work l.heads l.from l.n l.i l.mask-iterator.free (place l.mask-iterator.next))
