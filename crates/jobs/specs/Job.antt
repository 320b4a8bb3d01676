-- One job by its numbers (document 01, "State"): deadline D and least gap P of its task, the ticks p until the task may be released again,
-- and the work left c.
use Rattle.std.specs.Prelude.{ℕ, Bool, not, ◌&&◌, ◌||◌, ℤ, pos, ◌-ℤ◌, int_lt, nat_lt, eqb}
use Rattle.lists.specs.Lists.{pick}

-- the age, P - p: the ticks since the release
abbrev pub age : ℕ → ℕ → ℤ
age gap p = pos gap -ℤ pos p

-- the time left, d = D - (P - p)
abbrev pub time_left : ℕ → ℕ → ℕ → ℤ
time_left deadline gap p = pos deadline -ℤ age gap p

-- the slack, d - c
abbrev pub slack : ℕ → ℕ → ℕ → ℕ → ℤ
slack deadline gap p c = time_left deadline gap p -ℤ pos c

-- a job with c work left is late: its slack is below 0 ("One tick", step 5)
abbrev pub late_job : ℕ → ℕ → ℕ → ℕ → Bool
late_job deadline gap p c = nat_lt 0 c && int_lt (slack deadline gap p c) (pos 0)

-- a started job keeps its processor: the policies 0 and 2
abbrev pub keeps_running : ℕ → Bool
keeps_running policy = eqb policy 0 || eqb policy 2

-- ---- what the order goes by ("One tick", step 2)

-- by what a policy orders the jobs (and document 02, §3): fixed priority, 0 and 1, by nothing but the task's number; earliest
-- deadline, 2 and 3, by the time left; least slack, 4, by the slack, that which decides a miss. A further policy is one more test here
unfoldable pub job_key : ℕ → ℕ → ℕ → ℕ → ℕ → ℤ
job_key policy deadline gap p c =
    pick (nat_lt policy 2) (pos 0)
    (pick (nat_lt policy 4) (time_left deadline gap p)
    (slack deadline gap p c))

-- what settles equal keys before the task's number does (document 02, §4): nothing under fixed priority, else the age, of which the
-- greater goes first
unfoldable pub job_age : ℕ → ℕ → ℕ → ℤ
job_age policy gap p = pick (nat_lt policy 2) (pos 0) (age gap p)

-- the smaller of two numbers goes first, and `rest` settles equal ones
abbrev pub lex : ℤ → ℤ → Bool → Bool
lex a b rest = int_lt a b || (not (int_lt b a) && rest)
