-- The choice of the running tasks by one number a task, its place, and the walk that makes it: it gives the processors out one after the
-- other and carries their number ("cores handed out", document 02, §2). A place is 0 where the task's job keeps its processor and 65534 or
-- 65535 where it has none; of the others the smaller goes first, and of equal ones that of the smaller task number. No part of the paper's
-- model: proofs/Place.antt of `tasks` shows that the places of a state give the choice of its Tick.antt.
use Rattle.std.specs.Prelude.{ℕ, ◌≤◌, ◌≡◌, List, Bool, ◌&&◌, ◌||◌, get_or, eqb, ltb}
use Rattle.lists.specs.Lists.{eight, pick, count}

-- the place at k is below x
unfoldable pub under : List ℕ → ℕ → ℕ → Bool
under places x k = ltb (get_or places k 0) x

-- a place as the order takes it: the two of no job are alike
abbrev pub capped : ℕ → ℕ
capped y = pick (ltb y 65534) y 65534

-- a task with place y and number k goes before one with place x and number i
unfoldable pub sooner : ℕ → ℕ → ℕ → ℕ → Bool
sooner y k x i = ltb (capped y) (capped x) || (eqb (capped y) (capped x) && ltb k i)

-- task k goes before task i
unfoldable pub leads : List ℕ → ℕ → ℕ → Bool
leads places i k = sooner (get_or places k 0) k (get_or places i 0) i

-- how many of the first n tasks go before task i
unfoldable pub rank : List ℕ → ℕ → ℕ → ℕ
rank places n i = count n (leads places i)

-- how many jobs keep their processors
unfoldable pub kept_count : List ℕ → ℕ
kept_count places = count 8 (under places 1)

-- how many jobs are ready, those that keep their processors among them
unfoldable pub ready_count : List ℕ → ℕ
ready_count places = count 8 (under places 65534)

-- task i is one of those chosen with c processors: it is ready, and its job keeps its processor or has fewer than c tasks before it
unfoldable pub taken : List ℕ → ℕ → ℕ → Bool
taken places c i = under places 65534 i && (under places 1 i || ltb (rank places 8 i) c)

-- the tasks chosen with c processors: 1 for each, 0 for the others
unfoldable pub served : List ℕ → ℕ → List ℕ
served places c = eight (λ i. pick (taken places c i) 1 0)

-- ---- a walk

-- how many tasks are chosen
unfoldable pub tasks_in : List ℕ → ℕ
tasks_in run = count 8 (λ i. eqb (get_or run i 0) 1)

-- what the number given out never exceeds: m, or, where more than m jobs keep their processors, which no proper state has, their number
unfoldable pub most_of : List ℕ → ℕ → ℕ
most_of places m = pick (ltb m (kept_count places)) (kept_count places) m

-- a walk with m processors has chosen the tasks in `run` and given `given` processors out: the tasks are the first in the order of the
-- places; the number is that of the tasks chosen so far; and it is at most m, or what a state that is not proper makes of it
pub record Walked (places : List ℕ) (m : ℕ) (run : List ℕ) (given : ℕ) : Type 0 where
  pub first : run ≡ served places given
  pub number : given ≡ tasks_in run
  pub most : given ≤ most_of places m
