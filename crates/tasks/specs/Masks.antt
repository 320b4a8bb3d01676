-- Which tasks a tick may release (document 01, "One tick", step 1), and the mask of all of them.
use Rattle.std.specs.Prelude.{ℕ, Bool, ◌&&◌, eqb, ltb, get_or}
use Rattle.lists.specs.Lists.{bits_of}
use Rattle.tasks.specs.declared.state.State.{State}
use Rattle.tasks.specs.declared.table.Table.{Table}

-- task i of the table, counted from 0, may be released: its p is 0
unfoldable pub releasable : Table → State → ℕ → Bool
releasable t s i = ltb i t.n && eqb (get_or s.p i 0) 0

-- the mask of all tasks that may be released
unfoldable pub free_mask : Table → State → ℕ
free_mask t s = bits_of 8 (releasable t s)
