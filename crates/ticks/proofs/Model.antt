-- The ticks that the benchmark makes are those of the model. Assumes nothing.
use Rattle.std.proofs.Common.{◌≡◌, ℕ, false}
use Rattle.tasks.specs.Table.{table_fault}
use Rattle.tasks.specs.State.{improper}
use Rattle.tasks.specs.Tick.{after}
use Rattle.tasks.specs.declared.state.State.{State}
use Rattle.tasks.specs.declared.table.Table.{Table}
use Rattle.tasks.proofs.InWords.{StateBytes}
use Rattle.tasks.proofs.Ticking.{ticker_state}
use Rattle.ticks.specs.Ticks.{tick_of}

-- LAW: a tick from a proper state of a valid table is that of document 01
pub tick_model : (t : Table) (s : State) (mask : ℕ) → table_fault t ≡ 0 → improper t s ≡ false → StateBytes s → tick_of t s mask ≡ after t s mask
unfolding tick_of
tick_model = ticker_state
