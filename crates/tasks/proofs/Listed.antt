-- The refusals of a sheet are 1 to 8. Assumes nothing.
use Prim.Native.Nat.{ℕ, zero, suc, ◌+◌, ◌-◌, ◌≤◌, ◌<◌}
use mathlib.Core.Path.{◌≡◌}
use mathlib.Core.Bool.{◌||◌}
use mathlib.Core.List.{List}
use native.Mathlib.Omega.{arith}
use lib.Dec.{ltb}
use lib.ListN.{length, get_or}
use Rattle.std.specs.Prelude.{Result, Ok, Err}
use Rattle.tasks.specs.declared.refusal.Refusal.{Refusal}
use Rattle.tasks.specs.Table.{last_policy, breaks}
use Rattle.tasks.specs.Refusals.{refusal_number}
use Rattle.tasks.specs.declared.refusal.Refusal.TheVariants.{FieldCount, Policy, Processors, TaskCount}
use Rattle.tasks.specs.Number.{Read, above, number_in, number_at}
use Rattle.tasks.specs.Sheet.{ruled, field_at, and_then, task_of, task_at, with_task, tasks_from, from_tasks, from_policy, sheet_of, empty_table}
use Rattle.tasks.specs.declared.table.Table.{Table}
use Rattle.tasks.proofs.Refusals.{refusal_some, pick_case}

-- a value, or one of the refusals 1 to 8
abbrev Listed : {A : Type 0} → Result A Refusal → Type 0
Listed (Ok x) = Unit {0}
Listed (Err r) = refusal_number r ≤ 8

above_listed : (g : ℕ) (x : Read ℕ) → Listed x → Listed (above g x)
above_listed g (Ok (v, next)) p = tt
above_listed g (Err r) p = p

number_listed : (k least : ℕ) (s : List ℕ) (at : ℕ) → Listed (number_in k least s at)
unfolding number_in
number_listed zero least s at = omega arith
number_listed (suc k) least s at =
    pick_case Listed (ltb at (length s))
    (pick_case Listed (ltb (get_or s at 0) least) (omega arith)
    (pick_case Listed (ltb (get_or s at 0) 128) tt (above_listed (get_or s at 0 - 128) (number_in k 1 s (at + 1)) (number_listed k 1 s (at + 1)))))
    (omega arith)

at_listed : (s : List ℕ) (at : ℕ) → Listed (number_at s at)
unfolding number_at
at_listed s at = number_listed 2 0 s at

ruled_listed : (low high : ℕ) (r : Refusal) → refusal_number r ≤ 8 → (x : Read ℕ) → Listed x → Listed (ruled low high r x)
ruled_listed low high r h (Ok (v, next)) p = pick_case Listed (ltb v low || ltb high v) h tt
ruled_listed low high r h (Err q) p = p

field_listed : (s : List ℕ) (at low high : ℕ) (r : Refusal) → refusal_number r ≤ 8 → Listed (field_at s at low high r)
unfolding field_at
field_listed s at low high r h = ruled_listed low high r h (number_at s at) (at_listed s at)

then_listed : {A B : Type 0} (x : Read A) (rest : A → ℕ → Result B Refusal) → Listed x → ((v : A) (next : ℕ) → Listed (rest v next)) → Listed (and_then x rest)
then_listed (Ok (v, next)) rest p f = f v next
then_listed (Err r) rest p f = p

task_listed : (s : List ℕ) (at : ℕ) → Listed (task_at s at)
unfolding task_at task_of
task_listed s at =
    then_listed (number_at s at) _ (at_listed s at)
    (λ work a. then_listed (number_at s a) _ (at_listed s a)
    (λ deadline b. then_listed (number_at s b) _ (at_listed s b)
    (λ gap next. pick_case Listed (breaks work deadline gap) (omega arith) tt)))

tasks_listed : (k i : ℕ) (t : Table) (s : List ℕ) (at : ℕ) → Listed (tasks_from k i t s at)
unfolding tasks_from
tasks_listed zero i t s at = pick_case Listed (ltb at (length s)) (omega arith) tt
tasks_listed (suc k) i t s at =
    then_listed (task_at s at) (λ task next. tasks_from k (i + 1) (with_task t i task) s next) (task_listed s at)
    (λ task next. tasks_listed k (i + 1) (with_task t i task) s next)

-- LAW: each refusal of a sheet is one of 1 to 8
sheet_listed : (s : List ℕ) → Listed (sheet_of s)
unfolding sheet_of from_policy from_tasks
sheet_listed s =
    then_listed (field_at s 0 3 3 FieldCount) _ (field_listed s 0 3 3 FieldCount (omega arith))
    (λ fields a. then_listed (field_at s a 0 last_policy Policy) _ (field_listed s a 0 last_policy Policy (omega arith))
    (λ policy b. then_listed (field_at s b 1 8 Processors) _ (field_listed s b 1 8 Processors (omega arith))
    (λ m c. then_listed (field_at s c 1 8 TaskCount) _ (field_listed s c 1 8 TaskCount (omega arith))
    (λ n d. tasks_listed n 0 (empty_table policy m n) s d))))

-- LAW: so a refused sheet has one of these numbers
pub sheet_refusal_lem : (s : List ℕ) {r : Refusal} → sheet_of s ≡ Err r → (0 < refusal_number r) × (refusal_number r ≤ 8)
sheet_refusal_lem s {r} e = (refusal_some r, rw e at (sheet_listed s))
