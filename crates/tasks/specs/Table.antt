-- The task table (document 01, "The task table" and "Refusals by cause").
use Rattle.std.specs.Prelude.{ℕ, Bool, ◌||◌, get_or, ltb}
use Rattle.lists.specs.Lists.{pick, any}
use Rattle.tasks.specs.declared.table.Table.{Table}

-- the last policy: 0 NP-GFP, 1 P-GFP, 2 NP-EDF, 3 P-EDF, 4 P-LST, least slack first (document 02, §3)
abbrev pub last_policy : ℕ
last_policy = 4

-- not 1 to 8
abbrev pub outside : ℕ → Bool
outside x = ltb x 1 || ltb 8 x

-- the numbers of a task break 1 ≤ C ≤ D ≤ P ≤ 200
unfoldable pub breaks : ℕ → ℕ → ℕ → Bool
breaks work deadline gap = ltb work 1 || ltb deadline work || ltb gap deadline || ltb 200 gap

-- task i, counted from 0, breaks the rule, or an entry after the nth is not 0
unfoldable pub fault_at : Table → ℕ → Bool
fault_at t i =
    pick (ltb i t.n)
    (breaks (get_or t.work i 0) (get_or t.deadline i 0) (get_or t.gap i 0))
    (ltb 0 (get_or t.work i 0) || ltb 0 (get_or t.deadline i 0) || ltb 0 (get_or t.gap i 0))

-- the refusal of a table: the first of 4 to 7 that applies, and 0 for a valid table
unfoldable pub table_fault : Table → ℕ
table_fault t =
    pick (ltb last_policy t.policy) 4
    (pick (outside t.m) 5
    (pick (outside t.n) 6
    (pick (any 8 (fault_at t)) 7 0)))
