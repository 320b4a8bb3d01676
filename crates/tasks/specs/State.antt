-- The state and when it is proper (document 01, "State"); its table is that of "The task table". The time left and the slack of a job are
-- in Job.antt of `jobs`.
use Rattle.std.specs.Prelude.{ℕ, Bool, ◌&&◌, ◌||◌, get_or, ltb, leb}
use Rattle.lists.specs.Lists.{eight, count, any}
use Rattle.jobs.specs.Job.{keeps_running, late_job}
use Rattle.tasks.specs.declared.state.State.{State}
use Rattle.tasks.specs.declared.table.Table.{Table}

-- the start state
abbrev pub start : State
start = record { c = eight (λ i. 0); p = eight (λ i. 0) }

-- ---- what a job is

-- task i has a job with work left
abbrev pub ready : State → ℕ → Bool
ready s i = ltb 0 (get_or s.c i 0)

-- task i's job has had some of its work, and not all
unfoldable pub started : Table → State → ℕ → Bool
started t s i = ltb 0 (get_or s.c i 0) && ltb (get_or s.c i 0) (get_or t.work i 0)

-- the policies 0 and 2
abbrev pub not_preempted : Table → Bool
not_preempted t = keeps_running t.policy

-- task i's job keeps its processor: it is started, under a policy that does not preempt
unfoldable pub keeps : Table → State → ℕ → Bool
keeps t s i = not_preempted t && started t s i

-- task i's job is late: it has work left, and its slack is below 0
unfoldable pub late : Table → State → ℕ → Bool
late t s i = late_job (get_or t.deadline i 0) (get_or t.gap i 0) (get_or s.p i 0) (get_or s.c i 0)

-- ---- proper

-- task i breaks c ≤ C or p ≤ P, its job is late, or an entry after the nth is not 0
unfoldable pub improper_at : Table → State → ℕ → Bool
improper_at t s i =
    ltb (get_or t.work i 0) (get_or s.c i 0) || ltb (get_or t.gap i 0) (get_or s.p i 0) || late t s i
    || (leb t.n i && (ltb 0 (get_or s.c i 0) || ltb 0 (get_or s.p i 0)))

-- the state is not proper: some task is not, or more than m jobs keep a processor
unfoldable pub improper : Table → State → Bool
improper t s = any 8 (improper_at t s) || ltb t.m (count 8 (keeps t s))
