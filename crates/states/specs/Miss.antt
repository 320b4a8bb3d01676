-- Only the bookkeeping of those who tick many states: whether some mask misses from a state in words, told by one tick at most.
use Rattle.std.specs.Prelude.{ℕ, Bool, ◌&&◌, List}
use Rattle.tasks.specs.Tick.{missed}
use Rattle.tasks.specs.Tight.{tight}
use Rattle.tasks.specs.Words.{state_of}
use Rattle.tasks.specs.Ticker.{prepared_by, ticked_by, free_by}
use Rattle.tasks.specs.declared.table.Table.{Table}
use Rattle.tasks.specs.declared.ticker.Ticker.{Ticker}

-- the mask of all tasks that may be released misses
unfoldable pub full_by : Table → Ticker → List ℕ → Bool
full_by t ticker v = missed t (state_of (ticked_by ticker (prepared_by ticker v) (free_by ticker v)))

-- .. and some job is tight; proofs/MissLaws.antt: from a proper state, exactly where some mask misses
abbrev pub miss_by : Table → Ticker → List ℕ → Bool
miss_by t ticker v = tight t (state_of v) && full_by t ticker v
