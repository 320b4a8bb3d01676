-- The sheet as bytes (document 01, "The sheet as bytes" and "Refusals by cause"). In order: fields for each task (3), policy,
-- m, n, then C, D, P for each task, and the end. A sheet is judged in reading order: each number 1, 2, then its own rule; 7
-- after a task's three numbers; 8 for bytes after the last task.
use Rattle.std.specs.Prelude.{ℕ, zero, suc, ◌+◌, List, [], ◌∷◌, ◌++◌, ◌||◌, length, get_or, set, drop, ltb, Result, Ok, Err}
use Rattle.lists.specs.Lists.{eight, pick}
use Rattle.tasks.specs.Table.{last_policy, breaks, table_fault}
use Rattle.tasks.specs.Number.{Read, number_bytes, number_at}
use Rattle.tasks.specs.Refusals.{refusal_number, unless_refused}
use Rattle.tasks.specs.declared.refusal.Refusal.{Refusal}
use Rattle.tasks.specs.declared.table.Table.{Table}
use Rattle.tasks.specs.declared.sheet.Task.{Task}

-- a table of n tasks before any is read
abbrev pub empty_table : ℕ → ℕ → ℕ → Table
empty_table policy m n =
    record {
      policy = policy;
      m = m;
      n = n;
      work = eight (λ i. 0);
      deadline = eight (λ i. 0);
      gap = eight (λ i. 0);
    }

-- ---- the numbers before the tasks

-- a number's own rule: from low to high, else refusal r
abbrev pub ruled : ℕ → ℕ → Refusal → Read ℕ → Read ℕ
ruled low high r (Ok (v, next)) = pick (ltb v low || ltb high v) (Err r) (Ok (v, next))
ruled low high r (Err q) = Err q

unfoldable pub field_at : List ℕ → ℕ → ℕ → ℕ → Refusal → Read ℕ
field_at s at low high r = ruled low high r (number_at s at)

-- the rest after what was read, or its refusal
abbrev pub and_then : {A B : Type 0} → Read A → (A → ℕ → Result B Refusal) → Result B Refusal
and_then (Ok (v, next)) rest = rest v next
and_then (Err r) rest = Err r

-- ---- a task

-- a task of three numbers, judged once they are read
unfoldable pub task_of : ℕ → ℕ → ℕ → ℕ → Read Task
task_of work deadline gap next =
    pick (breaks work deadline gap) (Err Refusal.Task)
    (Ok (record { work = work; deadline = deadline; gap = gap }, next))

-- the task at a place: C, D and P
unfoldable pub task_at : List ℕ → ℕ → Read Task
task_at s at =
    and_then (number_at s at)
    (λ work a. and_then (number_at s a) (λ deadline b. and_then (number_at s b) (λ gap next. task_of work deadline gap next)))

-- the table with the numbers of task i set
unfoldable pub with_task : Table → ℕ → Task → Table
with_task t i task =
    record {
      policy = t.policy;
      m = t.m;
      n = t.n;
      work = set t.work i task.work;
      deadline = set t.deadline i task.deadline;
      gap = set t.gap i task.gap;
    }

-- ---- the sheet

-- k tasks more, from task i on, and then the end
unfoldable pub tasks_from : ℕ → ℕ → Table → List ℕ → ℕ → Result Table Refusal
tasks_from zero i t s at = pick (ltb at (length s)) (Err Refusal.LaterBytes) (Ok t)
tasks_from (suc k) i t s at =
    and_then (task_at s at) (λ task next. tasks_from k (i + 1) (with_task t i task) s next)

-- n tasks, and then the end
unfoldable pub from_tasks : List ℕ → ℕ → ℕ → ℕ → ℕ → Result Table Refusal
from_tasks s policy m n at = tasks_from n 0 (empty_table policy m n) s at

-- policy, m and n, and then the tasks
unfoldable pub from_policy : List ℕ → ℕ → Result Table Refusal
from_policy s at =
    and_then (field_at s at 0 last_policy Refusal.Policy)
    (λ policy a. and_then (field_at s a 1 8 Refusal.Processors) (λ m b. and_then (field_at s b 1 8 Refusal.TaskCount) (λ n next. from_tasks s policy m n next)))

-- what reading a sheet answers
unfoldable pub sheet_of : List ℕ → Result Table Refusal
sheet_of s = and_then (field_at s 0 3 3 Refusal.FieldCount) (λ fields. from_policy s)

-- the table of a sheet that is accepted; of one that is refused a table of zeros
abbrev pub table_in : Result Table Refusal → Table
table_in (Ok t) = t
table_in (Err r) = empty_table 0 0 0

-- the refusal of a call that is given a sheet: the sheet's own, or else the rest's
abbrev pub after_reading : Result Table Refusal → ℕ → ℕ
after_reading (Ok t) rest = rest
after_reading (Err r) rest = refusal_number r

-- ---- the writer

-- the bytes of task i
unfoldable pub task_bytes : Table → ℕ → List ℕ
task_bytes t i = number_bytes (get_or t.work i 0) ++ (number_bytes (get_or t.deadline i 0) ++ number_bytes (get_or t.gap i 0))

-- the bytes of k tasks from task i on
unfoldable pub tasks_bytes : Table → ℕ → ℕ → List ℕ
tasks_bytes t zero i = []
tasks_bytes t (suc k) i = task_bytes t i ++ tasks_bytes t k (i + 1)

-- the sheet of a table
unfoldable pub sheet_bytes : Table → List ℕ
sheet_bytes t =
    number_bytes 3 ++ (number_bytes t.policy ++ (number_bytes t.m ++ (number_bytes t.n ++ tasks_bytes t t.n 0)))

-- why a table is not written to an output, 0 where it is: 4 to 7, then 12 where the output is shorter than the sheet
unfoldable pub write_refusal : Table → List ℕ → ℕ
write_refusal t out =
    pick (ltb 0 (table_fault t)) (table_fault t) (pick (ltb (length out) (length (sheet_bytes t))) 12 0)

-- what the writer answers: the refusal, or the sheet's length
unfoldable pub write_answer : Table → List ℕ → List ℕ
write_answer t out = pick (ltb 0 (write_refusal t out)) (0 ∷ write_refusal t out ∷ []) (1 ∷ length (sheet_bytes t) ∷ [])

-- the output afterwards: the sheet at its front, later bytes as they were; a refusal leaves every byte
unfoldable pub write_out : Table → List ℕ → List ℕ
write_out t out = pick (ltb 0 (write_refusal t out)) out (sheet_bytes t ++ drop (length (sheet_bytes t)) out)

-- ---- read and written again

-- what is answered where the reading is accepted, or its refusal
abbrev pub if_read : Result Table Refusal → List ℕ → List ℕ
if_read (Ok t) w = w
if_read (Err r) w = 0 ∷ refusal_number r ∷ []

abbrev pub out_if_read : Result Table Refusal → List ℕ → List ℕ → List ℕ
out_if_read (Ok t) new old = new
out_if_read (Err r) new old = old

-- an accepted sheet read and written has the same bytes: the answer, and the output afterwards
unfoldable pub copy_answer : List ℕ → List ℕ → List ℕ
copy_answer s out = if_read (sheet_of s) (pick (ltb (length out) (length s)) (0 ∷ 12 ∷ []) (1 ∷ length s ∷ []))

unfoldable pub copy_out : List ℕ → List ℕ → List ℕ
copy_out s out = out_if_read (sheet_of s) (pick (ltb (length out) (length s)) out (s ++ drop (length s) out)) out

-- a valid table written and read is the same table
unfoldable pub table_again : Table → Result Table Refusal
table_again t = unless_refused (table_fault t) t
