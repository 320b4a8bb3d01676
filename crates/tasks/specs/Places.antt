-- The choice by one number a task, its place: the smaller goes first. No part of the paper's model: the contracts of
-- private functions in src/places.rt cite it, and proofs/Place.antt shows that it gives the choice of Tick.antt.
use Rattle.std.specs.Prelude.{ℕ, Bool, List, ltb, ℤ, pos, get_or}
use Rattle.lists.specs.Lists.{count}
use Rattle.jobs.specs.Job.{lex}
use Rattle.jobs.specs.Place.{place_of}
use Rattle.tasks.specs.State.{ready, keeps}
use Rattle.tasks.specs.Tick.{before}
use Rattle.tasks.specs.declared.state.State.{State}
use Rattle.tasks.specs.declared.table.Table.{Table}

-- how many tasks go before task i
unfoldable pub earlier : Table → State → ℕ → ℕ
earlier t s i = count 8 (λ j. before t s j i)

-- the place of task i
unfoldable pub place : Table → State → ℕ → ℕ
place t s i = place_of (ready s i) (keeps t s i) (earlier t s i)

-- ---- the same by the keys and ages of all tasks

-- task j goes before task i
unfoldable pub before_in : List ℤ → List ℤ → ℕ → ℕ → Bool
before_in keys ages j i =
    lex (get_or keys j (pos 0)) (get_or keys i (pos 0)) (lex (get_or ages i (pos 0)) (get_or ages j (pos 0)) (ltb j i))

-- how many of the first n tasks go before task i
unfoldable pub earlier_in : List ℤ → List ℤ → ℕ → ℕ → ℕ
earlier_in keys ages n i = count n (λ j. before_in keys ages j i)
