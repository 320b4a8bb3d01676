-- Round trips: an accepted sheet is the sheet of the table that it gives, and the sheet of a valid table gives that table.
-- Assumes nothing.
use Prim.Native.Nat.{ℕ, zero, suc, ◌+◌, ◌≤◌, ◌<◌}
use mathlib.Core.Path.{◌≡◌, refl, sym, ap, ap₂, ◌∙◌}
use mathlib.Core.List.{List, ◌++◌, append_assoc}
use native.Mathlib.Omega.{arith}
use native.Mathlib.Decide.{ℕ_discrete}
use lib.Dec.{ltb}
use lib.ListN.{length, get_or, drop, length-append, length-drop, length-set, drop_of_length-le}
use lib.Seq.{drop-drop, drop-append_seam, get_or-set_same, get_or-set_other, ext_get_or}
use borrow.Author.Tests.{le-ltb, ltb-false}
use Rattle.lists.specs.Lists.{pick, front}
use Rattle.std.specs.Prelude.{Result, Ok, Err}
use Rattle.tasks.specs.declared.refusal.Refusal.{Refusal}
use Rattle.tasks.specs.Table.{last_policy, breaks, table_fault}
use Rattle.tasks.specs.Number.{Read, number_bytes, number_at}
use Rattle.tasks.specs.Sheet.{empty_table, field_at, and_then, task_of, task_at, with_task, tasks_from, from_tasks, from_policy, sheet_of, task_bytes, tasks_bytes, sheet_bytes}
use Rattle.tasks.specs.declared.table.Table.{Table}
use Rattle.tasks.specs.declared.sheet.Task.{Task}
use Rattle.tasks.specs.declared.refusal.Refusal.TheVariants.{FieldCount, Policy, Processors, TaskCount}
use Rattle.lists.proofs.Bools.{by_bool}
use Rattle.lists.proofs.Fill.{eight_at, front_at, front_more}
use Rattle.tasks.proofs.Groups.{read_same, Stands, number_stands, number_read}
use Rattle.tasks.proofs.Fields.{field_read, field_passes}
use Rattle.tasks.proofs.Tables.{FitTask, fit_task, task_fits, Valid, valid, not_refused}

-- ---- what an accepted reading says

no_answer : {X A : Type 0} {r : Refusal} {x : A} → ◌≡◌ {A = Result A Refusal} (Err r) (Ok x) → X
no_answer e = absurd (let z : ◌≡◌ {A = ℕ} 0 1 = cc in omega arith)

-- something was read, and the rest is accepted
pub record Passed {A B : Type 0} (x : Read A) (rest : A → ℕ → Result B Refusal) (t : B) : Type 0 where
  pub v : A
  pub next : ℕ
  pub is : x ≡ Ok (v, next)
  pub then : rest v next ≡ Ok t

pub passed : {A B : Type 0} (x : Read A) (rest : A → ℕ → Result B Refusal) (t : B) → and_then x rest ≡ Ok t → Passed x rest t
passed (Ok (v, next)) rest t e = record { v = v; next = next; is = refl; then = e }
passed (Err r) rest t e = no_answer e

-- a task was read: its three numbers stand one after the other, and fit
pub record TaskStands (s : List ℕ) (at : ℕ) (task : Task) (next : ℕ) : Type 0 where
  pub fits : FitTask task.work task.deadline task.gap
  pub bytes : drop at s ≡ (number_bytes task.work ++ (number_bytes task.deadline ++ number_bytes task.gap)) ++ drop next s

pub task_of_lem : (work deadline gap n : ℕ) {task : Task} {next : ℕ} → task_of work deadline gap n ≡ Ok (task, next)
    → FitTask work deadline gap × (work ≡ task.work) × (deadline ≡ task.deadline) × (gap ≡ task.gap) × (n ≡ next)
unfolding task_of
task_of_lem work deadline gap n {task} {next} e =
    by_bool (breaks work deadline gap) (λ h. no_answer (rw h at e))
    (λ h.
    let f : ◌≡◌ {A = Read Task} (Ok (record { work = work; deadline = deadline; gap = gap }, n)) (Ok (task, next)) = rw h at e in
    let g : ◌≡◌ {A = Task} (record { work = work; deadline = deadline; gap = gap }) task = (read_same f).0 in
    (fit_task h, ap (λ (x : Task). x.work) g, ap (λ (x : Task). x.deadline) g, ap (λ (x : Task). x.gap) g, (read_same f).1))

-- three numbers, one after the other
three :
    (s : List ℕ) (at C a D b P n : ℕ) (task : Task) (next : ℕ) → FitTask C D P → C ≡ task.work → D ≡ task.deadline → P ≡ task.gap → n ≡ next
    → Stands s at C a → Stands s a D b → Stands s b P n → TaskStands s at task next
three s at C a D b P n task next f c d p e x y z =
    record {
      fits = rw (← c, ← d, ← p) f;
      bytes =
          rw (← c, ← d, ← p, ← e)
          (x.bytes ∙ ap (λ l. number_bytes C ++ l) (y.bytes ∙ ap (λ l. number_bytes D ++ l) z.bytes)
          ∙ sym (append_assoc (number_bytes C) (number_bytes D ++ number_bytes P) (drop n s) ∙ ap (λ l. number_bytes C ++ l) (append_assoc (number_bytes D) (number_bytes P) (drop n s))));
    }

module _ (s : List ℕ) (byte : (i : ℕ) → get_or s i 0 < 256) where
  task_stands : (at : ℕ) (task : Task) (next : ℕ) → task_at s at ≡ Ok (task, next) → TaskStands s at task next
  unfolding task_at
  task_stands at task next e =
      let a = passed (number_at s at) (λ work a. and_then (number_at s a) (λ deadline b. and_then (number_at s b) (λ gap next. task_of work deadline gap next))) (task, next) e in
      let b = passed (number_at s a.next) (λ deadline b. and_then (number_at s b) (λ gap next. task_of a.v deadline gap next)) (task, next) a.then in
      let c = passed (number_at s b.next) (λ gap next. task_of a.v b.v gap next) (task, next) b.then in
      let d = task_of_lem a.v b.v c.v c.next c.then in
      three s at a.v a.next b.v b.next c.v c.next task next d.0 d.1 d.2 d.3 d.4
      (number_stands s byte at a.v a.next a.is)
      (number_stands s byte a.next b.v b.next b.is)
      (number_stands s byte b.next c.v c.next c.is)

-- ---- the tasks of an accepted sheet

-- the numbers of task j agree
pub record Same (t u : Table) (j : ℕ) : Type 0 where
  pub work : get_or t.work j 0 ≡ get_or u.work j 0
  pub deadline : get_or t.deadline j 0 ≡ get_or u.deadline j 0
  pub gap : get_or t.gap j 0 ≡ get_or u.gap j 0

-- a table in memory has eight entries
pub record Eight (t : Table) : Type 0 where
  pub work : length t.work ≡ 8
  pub deadline : length t.deadline ≡ 8
  pub gap : length t.gap ≡ 8

empty_eight : (policy m n : ℕ) → Eight (empty_table policy m n)
empty_eight policy m n = record { work = refl; deadline = refl; gap = refl }

-- k tasks more, from task i on, were read after those of t, and gave u
pub record TasksRead (k i : ℕ) (t u : Table) (s : List ℕ) (at : ℕ) : Type 0 where
  pub bytes : drop at s ≡ tasks_bytes u k i
  pub policy : t.policy ≡ u.policy
  pub m : t.m ≡ u.m
  pub n : t.n ≡ u.n
  pub earlier : (j : ℕ) → j < i → Same t u j
  pub each : (j : ℕ) → i ≤ j → j < i + k → FitTask (get_or u.work j 0) (get_or u.deadline j 0) (get_or u.gap j 0)
  pub later : (j : ℕ) → i + k ≤ j → Same t u j
  pub len : Eight u

set_eight : (t : Table) (i : ℕ) (task : Task) → Eight t → Eight (with_task t i task)
unfolding with_task
set_eight t i task e =
    record {
      work = length-set t.work i task.work ∙ e.work;
      deadline = length-set t.deadline i task.deadline ∙ e.deadline;
      gap = length-set t.gap i task.gap ∙ e.gap;
    }

set_other : (t : Table) (i : ℕ) (task : Task) (j : ℕ) → (j ≡ i → ⊥) → Same (with_task t i task) t j
unfolding with_task
set_other t i task j d =
    record {
      work = get_or-set_other t.work i j task.work 0 d;
      deadline = get_or-set_other t.deadline i j task.deadline 0 d;
      gap = get_or-set_other t.gap i j task.gap 0 d;
    }

-- the numbers of task j of t
pub record Entry (t : Table) (j : ℕ) (task : Task) : Type 0 where
  pub work : get_or t.work j 0 ≡ task.work
  pub deadline : get_or t.deadline j 0 ≡ task.deadline
  pub gap : get_or t.gap j 0 ≡ task.gap

set_entry : (t : Table) (i : ℕ) (task : Task) → Eight t → i < 8 → Entry (with_task t i task) i task
unfolding with_task
set_entry t i task e h =
    record {
      work = get_or-set_same t.work i task.work 0 (omega (arith, e.work));
      deadline = get_or-set_same t.deadline i task.deadline 0 (omega (arith, e.deadline));
      gap = get_or-set_same t.gap i task.gap 0 (omega (arith, e.gap));
    }

same_trans : {t u v : Table} {j : ℕ} → Same t u j → Same u v j → Same t v j
same_trans a b = record { work = a.work ∙ b.work; deadline = a.deadline ∙ b.deadline; gap = a.gap ∙ b.gap }

same_sym : {t u : Table} {j : ℕ} → Same t u j → Same u t j
same_sym a = record { work = sym a.work; deadline = sym a.deadline; gap = sym a.gap }

same_refl : (t : Table) (j : ℕ) → Same t t j
same_refl t j = record { work = refl; deadline = refl; gap = refl }

entry_same : {t u : Table} {j : ℕ} {task : Task} → Same t u j → Entry t j task → Entry u j task
entry_same a e = record { work = sym a.work ∙ e.work; deadline = sym a.deadline ∙ e.deadline; gap = sym a.gap ∙ e.gap }

entry_bytes : {t : Table} {j : ℕ} {task : Task} → Entry t j task → number_bytes task.work ++ (number_bytes task.deadline ++ number_bytes task.gap) ≡ task_bytes t j
unfolding task_bytes
entry_bytes {t} {j} {task} e = rw (e.work, e.deadline, e.gap)

entry_fits : {t : Table} {j : ℕ} {task : Task} → Entry t j task → FitTask task.work task.deadline task.gap → FitTask (get_or t.work j 0) (get_or t.deadline j 0) (get_or t.gap j 0)
entry_fits e f = rw (e.work, e.deadline, e.gap) f

-- one task more
tasks_more :
    (k i : ℕ) (t u : Table) (s : List ℕ) (at : ℕ) (task : Task) (next : ℕ) → Eight t → i < 8 → TaskStands s at task next → TasksRead k (i + 1) (with_task t i task) u s next
    → TasksRead (suc k) i t u s at
unfolding tasks_bytes with_task
tasks_more k i t u s at task next e h x r =
    let entry : Entry u i task = entry_same (r.earlier i (omega arith)) (set_entry t i task e h) in
    record {
      bytes = x.bytes ∙ ap₂ (λ a b. a ++ b) (entry_bytes entry) r.bytes;
      policy = r.policy;
      m = r.m;
      n = r.n;
      earlier = λ j l. same_trans (same_sym (set_other t i task j (λ q. omega arith))) (r.earlier j (omega arith));
      each = λ j a b. elim (ℕ_discrete j i) [
        | yes q ↦ rw q (entry_fits entry x.fits)
        | no q ↦ r.each j (omega arith) (omega arith)
      ];
      later = λ j l. same_trans (same_sym (set_other t i task j (λ q. omega arith))) (r.later j (omega arith));
      len = r.len;
    }

module _ (s : List ℕ) (byte : (i : ℕ) → get_or s i 0 < 256) where
  tasks_read : (k i : ℕ) (t u : Table) (at : ℕ) → Eight t → i + k ≤ 8 → tasks_from k i t s at ≡ Ok u → TasksRead k i t u s at
  unfolding tasks_from tasks_bytes
  tasks_read zero i t u at e h q =
      by_bool (ltb at (length s)) (λ l. no_answer (rw l at q))
      (λ l.
      let f : ◌≡◌ {A = Result Table Refusal} (Ok t) (Ok u) = rw l at q in
      let same : t ≡ u = cc in
      rw (← same)
      (record {
        bytes = drop_of_length-le s (ltb-false at (length s) l);
        policy = refl;
        m = refl;
        n = refl;
        earlier = λ j l. same_refl t j;
        each = λ j a b. absurd (omega arith);
        later = λ j l. same_refl t j;
        len = e;
      }))
  tasks_read (suc k) i t u at e h q = go (task_at s at) refl q (λ t next. tasks_read k (i + 1) t u next)
    where
      go :
          (r : Read Task) → task_at s at ≡ r → and_then r (λ task next. tasks_from k (i + 1) (with_task t i task) s next) ≡ Ok u
          → ((t : Table) (next : ℕ) → Eight t → i + 1 + k ≤ 8 → tasks_from k (i + 1) t s next ≡ Ok u → TasksRead k (i + 1) t u s next) → TasksRead (suc k) i t u s at
      go (Err r) p f more = no_answer f
      go (Ok (task, next)) p f more =
          tasks_more k i t u s at task next e (omega arith) (task_stands s byte at task next p)
          (more (with_task t i task) next (set_eight t i task e) (omega arith) f)

-- ---- an accepted sheet

-- the table is valid, and the sheet is its sheet
pub record Accepted (s : List ℕ) (t : Table) : Type 0 where
  pub valid : Valid t
  pub bytes : sheet_bytes t ≡ s
  pub len : Eight t

-- the numbers before the tasks, and the tasks
whole :
    (s : List ℕ) (t : Table) (a policy b m c n d : ℕ) → Stands s 0 3 a → policy ≤ last_policy → Stands s a policy b → (1 ≤ m) × (m ≤ 8) → Stands s b m c → (1 ≤ n) × (n ≤ 8) → Stands s c n d
    → TasksRead n 0 (empty_table policy m n) t s d → Accepted s t
unfolding sheet_bytes
whole s t a policy b m c n d x p y q z r w tasks =
    record {
      valid =
          record {
            policy = rw (← tasks.policy) p;
            processors = rw (← tasks.m) q;
            tasks = rw (← tasks.n) r;
            each = λ i h. tasks.each i (omega arith) (omega (arith, tasks.n));
            rest = λ i h l.
                let e = tasks.later i (omega (arith, tasks.n)) in
                let zero-at = eight_at {A = ℕ} 0 (λ i. 0) i l in
                (sym e.work ∙ zero-at, sym e.deadline ∙ zero-at, sym e.gap ∙ zero-at);
          };
      bytes =
          sym
          (x.bytes
          ∙ ap (λ l. number_bytes 3 ++ l)
          (y.bytes
          ∙ ap₂ (λ v l. number_bytes v ++ l) tasks.policy
          (z.bytes
          ∙ ap₂ (λ v l. number_bytes v ++ l) tasks.m
          (w.bytes ∙ ap₂ (λ v l. number_bytes v ++ l) tasks.n (tasks.bytes ∙ ap (λ k. tasks_bytes t k 0) tasks.n)))));
      len = tasks.len;
    }

module _ (s : List ℕ) (byte : (i : ℕ) → get_or s i 0 < 256) where
  pub accepted : (t : Table) → sheet_of s ≡ Ok t → Accepted s t
  unfolding sheet_of from_policy from_tasks
  accepted t e =
      let a = passed (field_at s 0 3 3 FieldCount) (λ fields. from_policy s) t e in
      let b = passed (field_at s a.next 0 last_policy Policy) (λ policy b. and_then (field_at s b 1 8 Processors) (λ m c. and_then (field_at s c 1 8 TaskCount) (λ n d. from_tasks s policy m n d))) t a.then in
      let c = passed (field_at s b.next 1 8 Processors) (λ m c. and_then (field_at s c 1 8 TaskCount) (λ n d. from_tasks s b.v m n d)) t b.then in
      let d = passed (field_at s c.next 1 8 TaskCount) (λ n d. from_tasks s b.v c.v n d) t c.then in
      let A = field_read s 0 3 3 FieldCount {v = a.v} {next = a.next} a.is in
      let B = field_read s a.next 0 last_policy Policy {v = b.v} {next = b.next} b.is in
      let C = field_read s b.next 1 8 Processors {v = c.v} {next = c.next} c.is in
      let D = field_read s c.next 1 8 TaskCount {v = d.v} {next = d.next} d.is in
      let three-is : a.v ≡ 3 = omega (arith, A.from, A.upto) in
      whole s t a.next b.v b.next c.v c.next d.v d.next
      (number_stands s byte 0 3 a.next (A.number ∙ ap (λ v. Ok (v, a.next)) three-is))
      B.upto
      (number_stands s byte a.next b.v b.next B.number)
      (C.from, C.upto)
      (number_stands s byte b.next c.v c.next C.number)
      (D.from, D.upto)
      (number_stands s byte c.next d.v d.next D.number)
      (tasks_read s byte d.v 0 (empty_table b.v c.v d.v) t d.next (empty_eight b.v c.v d.v) (omega (arith, D.upto)) d.then)

  -- an accepted sheet read and written has the same bytes
  pub read_write : (t : Table) → sheet_of s ≡ Ok t → sheet_bytes t ≡ s
  read_write t e = (accepted t e).bytes

  -- the table of an accepted sheet is valid
  pub read_valid : (t : Table) → sheet_of s ≡ Ok t → table_fault t ≡ 0
  read_valid t e = not_refused t (accepted t e).valid

-- ---- the sheet of a valid table

-- what follows a part
after_part : (s : List ℕ) (at : ℕ) (a rest : List ℕ) → drop at s ≡ a ++ rest → drop (at + length a) s ≡ rest
after_part s at a rest e = sym (drop-drop (length a) at s) ∙ ap (drop (length a)) e ∙ drop-append_seam a rest

-- the entries of l below i, and then zeros
abbrev cut : List ℕ → ℕ → List ℕ
cut l i = front i (λ j. get_or l j 0)

-- a list of eight with zeros from n on
cut_all : (l : List ℕ) (n : ℕ) → length l ≡ 8 → ((i : ℕ) → n ≤ i → i < 8 → get_or l i 0 ≡ 0) → cut l n ≡ l
cut_all l n e z =
    ext_get_or 0 (cut l n) l (sym e)
    (λ j h.
    front_at n (λ k. get_or l k 0) j h
    ∙ by_bool (ltb j n) (λ t. ap (λ x. pick x (get_or l j 0) 0) t) (λ t. ap (λ x. pick x (get_or l j 0) 0) t ∙ sym (z j (ltb-false j n t) h)))

-- t with its first i tasks
firsts : Table → ℕ → Table
firsts t i =
    record {
      policy = t.policy;
      m = t.m;
      n = t.n;
      work = cut t.work i;
      deadline = cut t.deadline i;
      gap = cut t.gap i;
    }

entry : Table → ℕ → Task
entry t i = record { work = get_or t.work i 0; deadline = get_or t.deadline i 0; gap = get_or t.gap i 0 }

firsts_more : (t : Table) (i : ℕ) → i < 8 → with_task (firsts t i) i (entry t i) ≡ firsts t (i + 1)
unfolding firsts entry with_task
firsts_more t i h = λ k.
    record {
      policy = t.policy;
      m = t.m;
      n = t.n;
      work = front_more (λ j. get_or t.work j 0) i h k;
      deadline = front_more (λ j. get_or t.deadline j 0) i h k;
      gap = front_more (λ j. get_or t.gap j 0) i h k;
    }

firsts_all : (t : Table) → Eight t → Valid t → firsts t t.n ≡ t
unfolding firsts
firsts_all t e v = λ k.
    record {
      policy = t.policy;
      m = t.m;
      n = t.n;
      work = cut_all t.work t.n e.work (λ i h l. (v.rest i h l).0) k;
      deadline = cut_all t.deadline t.n e.deadline (λ i h l. (v.rest i h l).1) k;
      gap = cut_all t.gap t.n e.gap (λ i h l. (v.rest i h l).2) k;
    }

-- the task that stands at a place is read
task_read :
    (s : List ℕ) (at : ℕ) (t : Table) (i : ℕ) (rest : List ℕ) → FitTask (get_or t.work i 0) (get_or t.deadline i 0) (get_or t.gap i 0) → drop at s ≡ task_bytes t i ++ rest
    → task_at s at ≡ Ok (entry t i, at + length (task_bytes t i))
unfolding task_at task_of task_bytes entry
task_read s at t i rest f e =
    let C = get_or t.work i 0 in
    let D = get_or t.deadline i 0 in
    let P = get_or t.gap i 0 in
    let small : (C < 16384) × (D < 16384) × (P < 16384) = (omega (arith, f.order, f.close, f.short), omega (arith, f.close, f.short), omega (arith, f.short)) in
    let e₁ : drop at s ≡ number_bytes C ++ ((number_bytes D ++ number_bytes P) ++ rest) = e ∙ append_assoc (number_bytes C) (number_bytes D ++ number_bytes P) rest in
    let e₂ : drop (at + length (number_bytes C)) s ≡ number_bytes D ++ (number_bytes P ++ rest) =
    after_part s at (number_bytes C) ((number_bytes D ++ number_bytes P) ++ rest) e₁ ∙ append_assoc (number_bytes D) (number_bytes P) rest in
    let e₃ : drop (at + length (number_bytes C) + length (number_bytes D)) s ≡ number_bytes P ++ rest =
    after_part s (at + length (number_bytes C)) (number_bytes D) (number_bytes P ++ rest) e₂ in
    let ends : at + length (number_bytes C) + length (number_bytes D) + length (number_bytes P) ≡ at + length (number_bytes C ++ (number_bytes D ++ number_bytes P)) =
    omega (arith, length-append (number_bytes C) (number_bytes D ++ number_bytes P), length-append (number_bytes D) (number_bytes P)) in
    rw
    (number_read C small.0 s at ((number_bytes D ++ number_bytes P) ++ rest) e₁, number_read D small.1 s (at + length (number_bytes C)) (number_bytes P ++ rest) e₂, number_read P small.2 s (at + length (number_bytes C) + length (number_bytes D)) rest e₃, task_fits f)
    (ap (λ n. Ok (record { work = C; deadline = D; gap = P }, n)) ends)

module _ (t : Table) (e : Eight t) (v : Valid t) (s : List ℕ) where
  tasks_written : (k i at : ℕ) → i + k ≡ t.n → drop at s ≡ tasks_bytes t k i → tasks_from k i (firsts t i) s at ≡ Ok t
  unfolding tasks_from tasks_bytes
  tasks_written zero i at h q =
      let over : length s ≤ at = omega (arith, length-drop at s, ap length q) in
      let all : i ≡ t.n = omega arith in
      rw (le-ltb at (length s) over) (ap Ok (ap (firsts t) all ∙ firsts_all t e v))
  tasks_written (suc k) i at h q =
      let i8 : i < 8 = omega (arith, v.tasks.1) in
      let read = task_read s at t i (tasks_bytes t k (i + 1)) (v.each i (omega arith)) q in
      rw (read, firsts_more t i i8)
      (tasks_written k (i + 1) (at + length (task_bytes t i)) (omega arith) (after_part s at (task_bytes t i) (tasks_bytes t k (i + 1)) q))

-- a number that stands at a place and keeps its rule is read
field_stands :
    (s : List ℕ) (at low high : ℕ) (r : Refusal) (x : ℕ) (rest : List ℕ) → low ≤ x → x ≤ high → high ≤ 8 → drop at s ≡ number_bytes x ++ rest
    → field_at s at low high r ≡ Ok (x, at + length (number_bytes x))
field_stands s at low high r x rest l h b e =
    field_passes (record { number = number_read x (omega arith) s at rest e; from = l; upto = h }) r

-- a valid table written and read is the same table
pub write_read : (t : Table) → Eight t → table_fault t ≡ 0 → sheet_of (sheet_bytes t) ≡ Ok t
unfolding sheet_of from_policy from_tasks sheet_bytes firsts
write_read t e f =
    let v = valid t f in
    let W = tasks_bytes t t.n 0 in
    let Z = number_bytes t.n ++ W in
    let Y = number_bytes t.m ++ Z in
    let X = number_bytes t.policy ++ Y in
    let s = number_bytes 3 ++ X in
    let e₁ : drop (0 + length (number_bytes 3)) s ≡ X = after_part s 0 (number_bytes 3) X refl in
    let e₂ : drop (0 + length (number_bytes 3) + length (number_bytes t.policy)) s ≡ Y =
    after_part s (0 + length (number_bytes 3)) (number_bytes t.policy) Y e₁ in
    let e₃ : drop (0 + length (number_bytes 3) + length (number_bytes t.policy) + length (number_bytes t.m)) s ≡ Z =
    after_part s (0 + length (number_bytes 3) + length (number_bytes t.policy)) (number_bytes t.m) Z e₂ in
    let e₄ : drop (0 + length (number_bytes 3) + length (number_bytes t.policy) + length (number_bytes t.m) + length (number_bytes t.n)) s ≡ W =
    after_part s (0 + length (number_bytes 3) + length (number_bytes t.policy) + length (number_bytes t.m)) (number_bytes t.n) W e₃ in
    rw
    (field_stands s 0 3 3 FieldCount 3 X (omega arith) (omega arith) (omega arith) refl, field_stands s (0 + length (number_bytes 3)) 0 last_policy Policy t.policy Y (omega arith) v.policy (omega arith) e₁, field_stands s (0 + length (number_bytes 3) + length (number_bytes t.policy)) 1 8 Processors t.m Z v.processors.0 v.processors.1 (omega arith) e₂, field_stands s (0 + length (number_bytes 3) + length (number_bytes t.policy) + length (number_bytes t.m)) 1 8 TaskCount t.n W v.tasks.0 v.tasks.1 (omega arith) e₃)
    (tasks_written t e v s t.n 0 (0 + length (number_bytes 3) + length (number_bytes t.policy) + length (number_bytes t.m) + length (number_bytes t.n)) (omega arith) e₄)
