-- The invariant of the slots: no mask misses from those passed; of the masks: none of those passed misses. Assumes nothing.
use mathlib.Core.Path.{◌≡◌}
use Prim.Native.Nat.{ℕ}
use Rattle.tasks.specs.Tick.{after}
use Rattle.tasks.specs.Masks.{free_mask}
use Rattle.tasks.specs.Ticker.{ticked_by}
use Rattle.tasks.specs.Words.{state_of}
use Rattle.levels.specs.Levels.{Hunting}
use Rattle.states.specs.System.{system}
use Rattle.states.specs.Bytes.{state_in}
use Rattle.states.specs.Masks.{place}
use Rattle.search.proofs.HuntLaws.{CalmTo}
use Rattle.search.proofs.hunt.hunt.Given as goal

abbrev pub invariant-loop-mask : goal.invariant-loop-mask
invariant-loop-mask l =
    (goal.iterator-loop-mask).can_next l.mask-iterator × (goal.iterator-loop-mask).is_finite l.mask-iterator
    × CalmTo l.table (state_in l.work l.i) l.mask-iterator.free (place l.mask-iterator.next) × (l.mask-iterator.free ≡ free_mask l.table (state_in l.work l.i))
    × ((mask : ℕ) → state_of (ticked_by l.ticker l.state mask) ≡ after l.table (state_in l.work l.i) mask)

abbrev pub invariant-loop-i : goal.invariant-loop-i
invariant-loop-i l = Hunting (system l.table) (state_in l.work) l.lo l.i
