-- What a sheet answers stands in its first bytes: those after the 64th never change it. Assumes nothing.
use Prim.Native.Nat.{ℕ, zero, suc, ◌+◌, ◌*◌, ◌≤◌, ◌<◌}
use mathlib.Core.Path.{◌≡◌, refl, sym, ap, ◌∙◌}
use mathlib.Core.List.{List}
use native.Mathlib.Omega.{arith}
use lib.Dec.{ltb}
use lib.ListN.{length, get_or, take}
use lib.Seq.{get_or-take, length-take-le, take_all}
use borrow.Author.Tests.{lt-ltb, ltb-true, ltb-false}
use Rattle.std.specs.Prelude.{Result, Ok, Err}
use Rattle.tasks.specs.declared.refusal.Refusal.{Refusal}
use Rattle.tasks.specs.Number.{Read, above, number_in, number_at}
use Rattle.tasks.specs.Table.{last_policy}
use Rattle.tasks.specs.Sheet.{empty_table, field_at, and_then, task_of, task_at, with_task, tasks_from, from_tasks, from_policy, sheet_of}
use Rattle.tasks.specs.declared.table.Table.{Table}
use Rattle.tasks.specs.declared.sheet.Task.{Task}
use Rattle.tasks.specs.declared.refusal.Refusal.TheVariants.{FieldCount, Policy, Processors, TaskCount}
use Rattle.lists.proofs.Bools.{by_bool}
use Rattle.tasks.proofs.Groups.{no_value, read_same}
use Rattle.tasks.proofs.Fields.{field_read}
use Rattle.tasks.proofs.Sheets.{sheet_short}
use Rattle.tasks.proofs.RoundTrip.{task_of_lem, passed, read_write, read_valid}

-- ---- the place after what is read

above_near : (g : ℕ) (x : Read ℕ) (v next n : ℕ) → ((w : ℕ) → x ≡ Ok (w, next) → next ≤ n) → above g x ≡ Ok (v, next) → next ≤ n
above_near g (Ok (w, m)) v next n h e = let q : m ≡ next = (read_same e).1 in h w (ap (λ n. Ok (w, n)) q)
above_near g (Err r) v next n h e = no_value e

number_in_near : (k least : ℕ) (s : List ℕ) (at v next : ℕ) → number_in k least s at ≡ Ok (v, next) → next ≤ at + k
unfolding number_in
number_in_near zero least s at v next e = no_value e
number_in_near (suc k) least s at v next e =
    by_bool (ltb at (length s))
    (λ h.
    by_bool (ltb (get_or s at 0) least) (λ a. no_value (rw (h, a) at e))
    (λ a.
    by_bool (ltb (get_or s at 0) 128)
    (λ b.
    let f : ◌≡◌ {A = Read ℕ} (Ok (get_or s at 0, at + 1)) (Ok (v, next)) = rw (h, a, b) at e in
    let n : at + 1 ≡ next = (read_same f).1 in
    omega arith)
    (λ b.
    above_near _ (number_in k 1 s (at + 1)) v next (at + suc k) (λ w f. omega (arith, number_in_near k 1 s (at + 1) w next f)) (rw (h, a, b) at e))))
    (λ h. no_value (rw h at e))

-- a number ends within two bytes
number_near : (s : List ℕ) (at v next : ℕ) → number_at s at ≡ Ok (v, next) → next ≤ at + 2
unfolding number_at
number_near s at v next e = number_in_near 2 0 s at v next e

-- a task within six
task_near : (s : List ℕ) (at : ℕ) (task : Task) (next : ℕ) → task_at s at ≡ Ok (task, next) → next ≤ at + 6
unfolding task_at
task_near s at task next e =
    let a = passed (number_at s at) (λ work a. and_then (number_at s a) (λ deadline b. and_then (number_at s b) (λ gap next. task_of work deadline gap next))) (task, next) e in
    let b = passed (number_at s a.next) (λ deadline b. and_then (number_at s b) (λ gap next. task_of a.v deadline gap next)) (task, next) a.then in
    let c = passed (number_at s b.next) (λ gap next. task_of a.v b.v gap next) (task, next) b.then in
    let d = task_of_lem a.v b.v c.v c.next c.then in
    omega
    (arith, number_near s at a.v a.next a.is, number_near s a.next b.v b.next b.is, number_near s b.next c.v c.next c.is, d.4)

-- ---- what follows a reading

then_same : {A B : Type 0} (x : Read A) (f g : A → ℕ → Result B Refusal) → ((v : A) (next : ℕ) → x ≡ Ok (v, next) → f v next ≡ g v next) → and_then x f ≡ and_then x g
then_same (Ok (v, next)) f g h = h v next refl
then_same (Err r) f g h = refl

-- ---- the first n bytes of a list

module _ (n : ℕ) (s : List ℕ) where
  -- whether a place before the cut is in the list
  in_front : (at : ℕ) → at < n → ltb at (length (take n s)) ≡ ltb at (length s)
  in_front at h =
      by_bool (ltb n (length s))
      (λ e.
      let l = ltb-true n (length s) e in
      let m = length-take-le n s (omega arith) in
      lt-ltb at (length (take n s)) (omega arith) ∙ sym (lt-ltb at (length s) (omega arith)))
      (λ e. ap (λ l. ltb at (length l)) (take_all n s (ltb-false n (length s) e)))

  number_in_front : (k least at : ℕ) → at + k ≤ n → number_in k least (take n s) at ≡ number_in k least s at
  unfolding number_in
  number_in_front zero least at h = refl
  number_in_front (suc k) least at h =
      rw (in_front at (omega arith), get_or-take n s at 0 (omega arith), number_in_front k 1 (at + 1) (omega arith))

  number_front : (at : ℕ) → at + 2 ≤ n → number_at (take n s) at ≡ number_at s at
  unfolding number_at
  number_front at h = number_in_front 2 0 at h

  field_same : (at low high : ℕ) (r : Refusal) → at + 2 ≤ n → field_at (take n s) at low high r ≡ field_at s at low high r
  unfolding field_at
  field_same at low high r h = rw (number_front at h)

  -- a field, and what follows it
  field_front :
      (at low high : ℕ) (r : Refusal) (f g : ℕ → ℕ → Result Table Refusal) → at + 2 ≤ n → ((v next : ℕ) → v ≤ high → next ≤ at + 2 → f v next ≡ g v next)
      → and_then (field_at (take n s) at low high r) f ≡ and_then (field_at s at low high r) g
  field_front at low high r f g h same =
      ap (λ x. and_then x f) (field_same at low high r h)
      ∙ then_same (field_at s at low high r) f g
      (λ v next e. let w = field_read s at low high r e in same v next w.upto (number_near s at v next w.number))

  task_front : (at : ℕ) → at + 6 ≤ n → task_at (take n s) at ≡ task_at s at
  unfolding task_at
  task_front at h =
      rw (number_front at (omega arith))
      (then_same (number_at s at) _ _
      (λ work a e.
      let x = number_near s at work a e in
      rw (number_front a (omega arith))
      (then_same (number_at s a) _ _
      (λ deadline b f.
      let y = number_near s a deadline b f in
      rw (number_front b (omega arith))))))

  tasks_front : (k i : ℕ) (t : Table) (at : ℕ) → at + 6 * k < n → tasks_from k i t (take n s) at ≡ tasks_from k i t s at
  unfolding tasks_from
  tasks_front zero i t at h = rw (in_front at (omega arith))
  tasks_front (suc k) i t at h =
      rw (task_front at (omega arith))
      (then_same (task_at s at) _ _
      (λ task next e. tasks_front k (i + 1) (with_task t i task) next (omega (arith, task_near s at task next e))))

  -- policy, m, n and eight tasks take at most 54 bytes
  policy_front : (at : ℕ) → at + 54 < n → from_policy (take n s) at ≡ from_policy s at
  unfolding from_policy from_tasks
  policy_front at h =
      field_front at 0 last_policy Policy _ _ (omega arith)
      (λ policy a x y.
      field_front a 1 8 Processors _ _ (omega arith)
      (λ m b z w.
      field_front b 1 8 TaskCount _ _ (omega arith)
      (λ count c u v. tasks_front count 0 (empty_table policy m count) c (omega arith))))

  -- LAW: what a sheet answers stands in its first 57 bytes
  pub front : 56 < n → sheet_of (take n s) ≡ sheet_of s
  unfolding sheet_of
  front h = field_front 0 3 3 FieldCount _ _ (omega arith) (λ fields a x y. policy_front a (omega arith))

-- LAW: bytes after the 64th never change what a sheet answers
pub sheet_front : (s : List ℕ) → sheet_of (take 64 s) ≡ sheet_of s
sheet_front s = front 64 s (omega arith)

-- LAW: an accepted sheet has at most 52 bytes
pub accepted_short : (s : List ℕ) → ((i : ℕ) → get_or s i 0 < 256) → (t : Table) → sheet_of s ≡ Ok t → length s ≤ 52
accepted_short s byte t e = omega (arith, ap length (read_write s byte t e), sheet_short t (read_valid s byte t e))
