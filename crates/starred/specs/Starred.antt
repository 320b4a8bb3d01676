-- The starred examples of document 01 ("Benchmark tables"), as entries of one list; and another of least slack first (document 02, §3).
use Rattle.std.specs.Prelude.{ℕ, List, [], ◌∷◌, map, length, take, get_or}
use Rattle.lists.specs.Lists.{eight}
use Rattle.tasks.specs.Number.{number_at}
use Rattle.tasks.specs.Replay.{replayed}
use Rattle.tasks.specs.Answers.{number_answer, replay_answer}
use Rattle.tasks.specs.declared.table.Table.{Table}
use Rattle.search.specs.Computed.{verdict_of, computed_answer}

-- (C, D, P) of a task
pub record Task : Type 0 where
  pub C : ℕ
  pub D : ℕ
  pub P : ℕ

abbrev pub task : ℕ → ℕ → ℕ → Task
task C D P = record { C = C; D = D; P = P }

-- the table written policy/m: (C,D,P), ..
abbrev pub table : ℕ → ℕ → List Task → Table
table policy m tasks =
    record {
      policy = policy;
      m = m;
      n = length tasks;
      work = eight (λ i. get_or (map (λ (t : Task). t.C) tasks) i 0);
      deadline = eight (λ i. get_or (map (λ (t : Task). t.D) tasks) i 0);
      gap = eight (λ i. get_or (map (λ (t : Task). t.P) tasks) i 0);
    }

-- what an example asks
pub data Question : Type 0 where
  -- the sheet number at the front of these bytes
  sheet_number : List ℕ → Question
  -- the replay of these masks: its kind, and the tick of the miss
  replay : Table → List ℕ → Question
  -- the verdict with K slots: kind, L, N, and under Unsafe the masks
  verdict : Table → ℕ → Question

-- what the definitions answer, by the paper's number and values
abbrev pub answer : Question → List ℕ
answer (sheet_number bytes) = number_answer (number_at bytes 0)
answer (replay t masks) = take 2 (replay_answer (replayed t masks))
answer (verdict t K) = computed_answer (verdict_of t K)

-- a question with the paper's answer
pub record Example : Type 0 where
  pub asks : Question
  pub says : List ℕ

abbrev pub starred : List Example
starred =
    -- 1/1: (1,2,2),(1,2,2): Safe 4
    record { asks = verdict (table 1 1 (task 1 2 2 ∷ task 1 2 2 ∷ [])) 4; says = 1 ∷ 0 ∷ 4 ∷ [] }
    -- with K = 3: No room 3
    ∷ record { asks = verdict (table 1 1 (task 1 2 2 ∷ task 1 2 2 ∷ [])) 3; says = 3 ∷ 0 ∷ 3 ∷ [] }
    -- 0/1: (1,1,2),(2,4,4): Unsafe 2 4, masks 2, 1
    ∷ record { asks = verdict (table 0 1 (task 1 1 2 ∷ task 2 4 4 ∷ [])) 4; says = 2 ∷ 2 ∷ 4 ∷ 2 ∷ 1 ∷ [] }
    -- K = 3: No room 3
    ∷ record { asks = verdict (table 0 1 (task 1 1 2 ∷ task 2 4 4 ∷ [])) 3; says = 3 ∷ 0 ∷ 3 ∷ [] }
    -- 1/1: (2,2,2),(1,2,2): first miss at tick 2 under masks 3, 0
    ∷ record { asks = replay (table 1 1 (task 2 2 2 ∷ task 1 2 2 ∷ [])) (3 ∷ 0 ∷ []); says = 2 ∷ 2 ∷ [] }
    -- 1/1: (1,1,1): Safe 1
    ∷ record { asks = verdict (table 1 1 (task 1 1 1 ∷ [])) 1; says = 1 ∷ 0 ∷ 1 ∷ [] }
    -- 1/1: (1,1,2),(1,1,2): Unsafe 1 1, mask 3, with K = 1
    ∷ record { asks = verdict (table 1 1 (task 1 1 2 ∷ task 1 1 2 ∷ [])) 1; says = 2 ∷ 1 ∷ 1 ∷ 3 ∷ [] }
    -- C8 01 is 200
    ∷ record { asks = sheet_number (0xC8 ∷ 0x01 ∷ []); says = 1 ∷ 200 ∷ 2 ∷ [] }
    -- 80 00 gives 2
    ∷ record { asks = sheet_number (0x80 ∷ 0x00 ∷ []); says = 0 ∷ 2 ∷ [] }
    -- 80 and the end gives 1
    ∷ record { asks = sheet_number (0x80 ∷ []); says = 0 ∷ 1 ∷ [] }
    ∷ []

-- ---- least slack first (document 02, §3)

-- three tasks on two processors; all released at once, earliest deadline lets the third wait, which has no slack, and least slack the first
abbrev pub crowded : ℕ → Table
crowded policy = table policy 2 (task 1 2 2 ∷ task 1 1 2 ∷ task 2 2 2 ∷ [])

abbrev pub least_slack : List Example
least_slack =
    -- 3/2: (1,2,2),(1,1,2),(2,2,2): Unsafe 1 1, mask 7
    record { asks = verdict (crowded 3) 1; says = 2 ∷ 1 ∷ 1 ∷ 7 ∷ [] }
    -- 4/2, the same: Safe 9
    ∷ record { asks = verdict (crowded 4) 9; says = 1 ∷ 0 ∷ 9 ∷ [] }
    -- with K = 8: No room 8
    ∷ record { asks = verdict (crowded 4) 8; says = 3 ∷ 0 ∷ 8 ∷ [] }
    -- policy 5: refused with 4
    ∷ record { asks = replay (crowded 5) []; says = 0 ∷ 4 ∷ [] }
    ∷ []

-- ---- equal deadlines told apart by age (document 02, §4)

-- what the order by task number alone answers otherwise: the first Safe 22, the second Unsafe 3 13
abbrev pub by_age : List Example
by_age =
    -- 3/2: (1,2,2),(2,2,2),(2,4,4): Unsafe 3 15, masks 7, 0, 3
    record { asks = verdict (table 3 2 (task 1 2 2 ∷ task 2 2 2 ∷ task 2 4 4 ∷ [])) 15; says = 2 ∷ 3 ∷ 15 ∷ 7 ∷ 0 ∷ 3 ∷ [] }
    -- 3/2: (1,2,2),(1,2,2),(3,4,4): Safe 22
    ∷ record { asks = verdict (table 3 2 (task 1 2 2 ∷ task 1 2 2 ∷ task 3 4 4 ∷ [])) 22; says = 1 ∷ 0 ∷ 22 ∷ [] }
    ∷ []
