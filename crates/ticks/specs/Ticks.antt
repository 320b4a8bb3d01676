-- What a call of `ticks` adds up: the figures of many ticks, each from its own state with its own mask, by a table made ready. From a
-- proper state of a valid table such a tick is the model's (proofs/Model.antt); the benchmark has no others.
use Rattle.std.specs.Prelude.{ℕ, zero, suc, ◌+◌, ◌*◌, ◌/◌, ◌%◌, ◌^◌, List, length, nat_lt, slice_index}
use Rattle.lists.specs.Lists.{eight, pick}
use Rattle.tasks.specs.Tick.{missed}
use Rattle.tasks.specs.Words.{words_of, state_of}
use Rattle.tasks.specs.Ticker.{ticker_of, prepared_by, ticked_by}
use Rattle.tasks.specs.declared.table.Table.{Table}
use Rattle.tasks.specs.declared.state.State.{State}

-- eight bytes from a place on
abbrev pub bytes_from : List ℕ → ℕ → List ℕ
bytes_from b at = eight (λ i. slice_index b (at + i))

-- a table in 27 bytes: policy, m, n, then eight C, eight D and eight P
unfoldable pub table_of : List ℕ → Table
table_of b =
    record {
      policy = slice_index b 0;
      m = slice_index b 1;
      n = slice_index b 2;
      work = bytes_from b 3;
      deadline = bytes_from b 11;
      gap = bytes_from b 19;
    }

-- state k in 16 bytes: eight c, then eight p
unfoldable pub state_in : List ℕ → ℕ → State
state_in b k = record { c = bytes_from b (16 * k); p = bytes_from b (16 * k + 8) }

-- eight bytes as one number, low byte first
unfoldable pub word : List ℕ → ℕ
word a =
    slice_index a 0 + slice_index a 1 * 0x100 + slice_index a 2 * 0x10000 + slice_index a 3 * 0x1000000 + slice_index a 4 * 0x100000000
    + slice_index a 5 * 0x10000000000 + slice_index a 6 * 0x1000000000000 + slice_index a 7 * 0x100000000000000

-- a state and whether it is missed, as one number
unfoldable pub figure : Table → State → ℕ
figure t s = ((word s.c + word s.p) % 2 ^ 64 + pick (missed t s) 1 0) % 2 ^ 64

-- the state after a tick
unfoldable pub tick_of : Table → State → ℕ → State
tick_of t s mask = state_of (ticked_by (ticker_of t) (prepared_by (ticker_of t) (words_of s)) mask)

-- the figures of the first k ticks
unfoldable pub sum : Table → List ℕ → List ℕ → ℕ → ℕ
sum t states masks zero = 0
sum t states masks (suc k) = (sum t states masks k + figure t (tick_of t (state_in states k) (slice_index masks k))) % 2 ^ 64

-- how many ticks there are: as many as masks and whole states
unfoldable pub pairs : List ℕ → List ℕ → ℕ
pairs states masks = pick (nat_lt (length states / 16) (length masks)) (length states / 16) (length masks)

-- the figures of all ticks, and 0 for a short table
unfoldable pub ticks_sum : List ℕ → List ℕ → List ℕ → ℕ
ticks_sum table states masks = pick (nat_lt (length table) 27) 0 (sum (table_of table) states masks (pairs states masks))
