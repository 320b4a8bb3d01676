-- Cutting at a priority (document 02, §9): the first k tasks of a table, and with them the cut of a state, of a mask and of a list.
use Rattle.std.specs.Prelude.{ℕ, ◌%◌, ◌^◌, List, [], ◌∷◌, ◌||◌, ltb, get_or}
use Rattle.lists.specs.Lists.{pick, front}
use Rattle.std.specs.Prelude.{Result}
use Rattle.tasks.specs.declared.refusal.Refusal.{Refusal}
use Rattle.tasks.specs.Table.{table_fault}
use Rattle.tasks.specs.Refusals.{unless_refused}
use Rattle.tasks.specs.declared.state.State.{State}
use Rattle.tasks.specs.declared.table.Table.{Table}

-- ---- the cut to k

-- the first k of eight numbers, and zeros after them
abbrev pub first_of : ℕ → List ℕ → List ℕ
first_of k l = front k (λ i. get_or l i 0)

-- of a table: its first k tasks, with the same policy and m
unfoldable pub cut_table : ℕ → Table → Table
cut_table k t =
    record {
      policy = t.policy;
      m = t.m;
      n = k;
      work = first_of k t.work;
      deadline = first_of k t.deadline;
      gap = first_of k t.gap;
    }

-- of a state: c and p of the first k tasks
unfoldable pub cut_state : ℕ → State → State
cut_state k s = record { c = first_of k s.c; p = first_of k s.p }

-- of a mask: its low k bits
unfoldable pub cut_mask : ℕ → ℕ → ℕ
cut_mask k mask = mask % 2 ^ k

-- of a list: every mask is cut
unfoldable pub cut_list : ℕ → List ℕ → List ℕ
cut_list k [] = []
cut_list k (mask ∷ masks) = cut_mask k mask ∷ cut_list k masks

-- ---- what the call answers

-- why a table is not cut to k: 4 to 7 of the table, then 6 where k is outside 1 to n; 0 where it is cut
unfoldable pub cut_refusal : Table → ℕ → ℕ
cut_refusal t k = pick (ltb 0 (table_fault t)) (table_fault t) (pick (ltb k 1 || ltb t.n k) 6 0)

-- the refusal, or the cut table
unfoldable pub cut_of : Table → ℕ → Result Table Refusal
cut_of t k = unless_refused (cut_refusal t k) (cut_table k t)
