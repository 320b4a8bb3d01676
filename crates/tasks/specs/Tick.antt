-- One tick (document 01, "One tick"), step by step, and its refusals ("Refusals by cause").
use Rattle.std.specs.Prelude.{ℕ, ◌-◌, ◌/◌, ◌%◌, ◌^◌, List, Bool, false, ◌&&◌, ◌||◌, get_or, eqb, ltb, leb, ℤ, Result, Ok, Err}
use Rattle.lists.specs.Lists.{eight, pick, count, any}
use Rattle.jobs.specs.Job.{job_key, job_age, lex}
use Rattle.tasks.specs.Table.{table_fault}
use Rattle.tasks.specs.State.{ready, keeps, late, improper}
use Rattle.tasks.specs.declared.state.State.{State}
use Rattle.tasks.specs.declared.table.Table.{Table}
use Rattle.tasks.specs.Refusals.{refusal_at}
use Rattle.tasks.specs.declared.refusal.Refusal.{Refusal}
use Rattle.tasks.specs.declared.tick.Step.{Step}
use Rattle.tasks.specs.declared.tick.Step.TheVariants.{Next, Missed}
use Rattle.tasks.specs.declared.tick.Ticked.{Ticked}

-- ---- step 1, the release

-- bit i of the mask, which stands for the task numbered i from 0, is set
abbrev pub bit : ℕ → ℕ → Bool
bit mask i = eqb (mask / 2 ^ i % 2) 1

-- the mask has bit i for no task, or for one that may not be released yet
unfoldable pub illegal_at : Table → State → ℕ → ℕ → Bool
illegal_at t s mask i = bit mask i && (leb t.n i || ltb 0 (get_or s.p i 0))

unfoldable pub illegal : Table → State → ℕ → Bool
illegal t s mask = any 8 (illegal_at t s mask)

-- one number of task i after the release: the table's where its bit is set
unfoldable pub released_at : List ℕ → List ℕ → ℕ → ℕ → ℕ
released_at full old mask i = pick (bit mask i) (get_or full i 0) (get_or old i 0)

-- c = C and p = P for each task whose bit is set
unfoldable pub released : Table → State → ℕ → State
released t s mask =
    record {
      c = eight (released_at t.work s.c mask);
      p = eight (released_at t.gap s.p mask);
    }

-- ---- step 2, the order

-- by what the policy orders the jobs, for task i: nothing, the time left or the slack
unfoldable pub key : Table → State → ℕ → ℤ
key t s i = job_key t.policy (get_or t.deadline i 0) (get_or t.gap i 0) (get_or s.p i 0) (get_or s.c i 0)

-- what settles equal keys (document 02, §4), for task i: nothing, or the age
unfoldable pub age : Table → State → ℕ → ℤ
age t s i = job_age t.policy (get_or t.gap i 0) (get_or s.p i 0)

-- the job of task j goes before that of task i: the smaller key first, then the greater age, then the smaller task number; a further
-- tie-break is one more `lex` here
unfoldable pub before : Table → State → ℕ → ℕ → Bool
before t s j i = lex (key t s j) (key t s i) (lex (age t s i) (age t s j) (ltb j i))

-- ---- step 3, the choice

-- the job of task j is served before one of task i that keeps no processor
unfoldable pub ahead : Table → State → ℕ → ℕ → Bool
ahead t s i j = ready s j && (keeps t s j || before t s j i)

-- task i runs: its job keeps its processor, or fewer than m jobs are ahead of it
unfoldable pub runs : Table → State → ℕ → Bool
runs t s i = ready s i && (keeps t s i || ltb (count 8 (ahead t s i)) t.m)

unfoldable pub chosen : Table → State → List Bool
chosen t s = eight (runs t s)

-- ---- step 4, the run

-- c of task i: one less where it runs
unfoldable pub ran_at : List ℕ → List Bool → ℕ → ℕ
ran_at c run i = pick (get_or run i false) (get_or c i 0 - 1) (get_or c i 0)

-- p of task i: one less where it is above 0
unfoldable pub fallen : List ℕ → ℕ → ℕ
fallen p i = get_or p i 0 - 1

unfoldable pub ran : State → List Bool → State
ran s run = record { c = eight (ran_at s.c run); p = eight (fallen s.p) }

-- the state after steps 1 to 4
unfoldable pub after : Table → State → ℕ → State
after t s mask = ran (released t s mask) (chosen t (released t s mask))

-- ---- step 5, the miss

-- some task's job is late
unfoldable pub missed : Table → State → Bool
missed t s = any 8 (late t s)

-- ---- the answer

-- why a tick is refused: the first of 4 to 7, 13 and 11 that applies, and 0 where none does
unfoldable pub refusal : Table → State → ℕ → ℕ
refusal t s mask =
    pick (ltb 0 (table_fault t)) (table_fault t)
    (pick (improper t s) 13
    (pick (illegal t s mask) 11 0))

-- the answer with the state beside it
abbrev pub answered : Result Step Refusal → State → Ticked
answered a s = record { answer = a; state = s }

-- a refusal with the state given, or Missed or Next with the state after step 4
unfoldable pub ticked : Table → State → ℕ → Ticked
ticked t s mask =
    pick (ltb 0 (refusal t s mask)) (answered (Err (refusal_at (refusal t s mask))) s)
    (pick (missed t (after t s mask)) (answered (Ok Missed) (after t s mask))
    (answered (Ok Next) (after t s mask)))
