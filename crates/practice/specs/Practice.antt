-- Practice tables (document 02, §7): a table that anyone can make again from policy, m, n and a number s of 16 bits. Tasks are counted
-- from 0.
use Rattle.std.specs.Prelude.{ℕ, zero, suc, ◌+◌, ◌*◌, ◌%◌, ltb}
use Rattle.lists.specs.Lists.{pick, front}
use Rattle.std.specs.Prelude.{Result}
use Rattle.tasks.specs.declared.refusal.Refusal.{Refusal}
use Rattle.tasks.specs.Table.{last_policy, outside}
use Rattle.tasks.specs.Refusals.{unless_refused}
use Rattle.tasks.specs.declared.table.Table.{Table}

-- ---- the draws

-- one draw, which is the new s
unfoldable pub drawn : ℕ → ℕ
drawn s = (25173 * s + 13849) % 65536

-- the kth draw from s, counted from 1; the 0th is s itself
unfoldable pub draw : ℕ → ℕ → ℕ
draw zero s = s
draw (suc k) s = drawn (draw k s)

-- ---- the tasks, three draws each

-- P of task i
unfoldable pub gap_drawn : ℕ → ℕ → ℕ
gap_drawn i s = 1 + draw (3 * i + 1) s % 200

-- D of task i
unfoldable pub deadline_drawn : ℕ → ℕ → ℕ
deadline_drawn i s = 1 + draw (3 * i + 2) s % gap_drawn i s

-- C of task i
unfoldable pub work_drawn : ℕ → ℕ → ℕ
work_drawn i s = 1 + draw (3 * i + 3) s % deadline_drawn i s

-- ---- the table

-- the table of policy, m, n and s; tasks after the nth are 0
unfoldable pub practice_table : ℕ → ℕ → ℕ → ℕ → Table
practice_table policy m n s =
    record {
      policy = policy;
      m = m;
      n = n;
      work = front n (λ i. work_drawn i s);
      deadline = front n (λ i. deadline_drawn i s);
      gap = front n (λ i. gap_drawn i s);
    }

-- why there is none: refusals 4, 5 and 6, in that order; 0 where there is one
unfoldable pub practice_refusal : ℕ → ℕ → ℕ → ℕ
practice_refusal policy m n = pick (ltb last_policy policy) 4 (pick (outside m) 5 (pick (outside n) 6 0))

-- what the call answers: the refusal, or the table
unfoldable pub practice_of : ℕ → ℕ → ℕ → ℕ → Result Table Refusal
practice_of policy m n s = unless_refused (practice_refusal policy m n) (practice_table policy m n s)
