-- The jobs that a tick may make late (document 01, "One tick", steps 4 and 5): a tick lowers the slack of a job that waits by 1 and of one
-- that runs by 0. No part of the paper's model: from a proper state of a valid table in which no job is tight, no legal mask misses
-- (proofs/NoMiss.antt).
use Rattle.std.specs.Prelude.{ℕ, Bool, ◌&&◌, ◌||◌, eqb, ltb, pos, get_or}
use Rattle.std.specs.Int.Signed.{lt_z}
use Rattle.lists.specs.Lists.{any}
use Rattle.jobs.specs.Job.{slack}
use Rattle.tasks.specs.declared.state.State.{State}
use Rattle.tasks.specs.declared.table.Table.{Table}

-- a job with work left has slack 0 or less
unfoldable pub tight_job : ℕ → ℕ → ℕ → ℕ → Bool
tight_job deadline gap p c = ltb 0 c && lt_z (slack deadline gap p c) (pos 1)

-- task i has a tight job, or would have one if it were released now
unfoldable pub tight_at : Table → State → ℕ → Bool
tight_at t s i =
    tight_job (get_or t.deadline i 0) (get_or t.gap i 0) (get_or s.p i 0) (get_or s.c i 0)
    || (eqb (get_or s.p i 0) 0 && tight_job (get_or t.deadline i 0) (get_or t.gap i 0) (get_or t.gap i 0) (get_or t.work i 0))

unfoldable pub tight : Table → State → Bool
tight t s = any 8 (tight_at t s)
