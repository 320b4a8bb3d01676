use mathlib.Core.List.{List}
use lib.Dec.{ltb}
use borrow.Author.Tests.{lt-ltb, le-ltb}
use Rattle.lists.specs.Lists.{pick}
use Rattle.tasks.specs.declared.table.Table.{Table}
use Rattle.tasks.specs.declared.sheet.Task.{Task}
use Rattle.std.proofs.Common.{rules}
use Rattle.std.specs.Prelude.{Ok, Err}
use Rattle.tasks.specs.declared.refusal.Refusal.{Refusal}
use Rattle.tasks.specs.declared.refusal.Refusal.TheVariants.{LaterBytes}
use Rattle.tasks.specs.Sheet.{task_at, with_task, and_then, tasks_from, from_tasks}
use lib.ListN.{length}
use mathlib.Core.Path.{◌≡◌, sym, ap, ◌∙◌}
use Prim.Native.Nat.{ℕ, suc, ◌+◌, ◌-◌, ◌≤◌, ◌<◌}
use native.Mathlib.Omega.{arith}
use Rattle.tasks.proofs.sheet.read_tasks.Goals as goal

module _ (n i : ℕ) (t : Table) (s : List ℕ) (at : ℕ) where
  -- the first task that is left
  tasks_left : i < n → tasks_from (n - i) i t s at ≡ and_then (task_at s at) (λ task next. tasks_from (n - (i + 1)) (i + 1) (with_task t i task) s next)
  unfolding tasks_from
  tasks_left h = let e : n - i ≡ suc (n - (i + 1)) = omega arith in ap (λ k. tasks_from k i t s at) e

  tasks_end : n ≤ i → tasks_from (n - i) i t s at ≡ pick (ltb at (length s)) (Err LaterBytes) (Ok t)
  unfolding tasks_from
  tasks_end h = let e : n - i ≡ 0 = omega arith in ap (λ k. tasks_from k i t s at) e

  -- bytes after the last task, and none
  tasks_over : n ≤ i → at < length s → tasks_from (n - i) i t s at ≡ Err LaterBytes
  tasks_over h l = rw (tasks_end h, lt-ltb at (length s) l)

  tasks_done : n ≤ i → length s ≤ at → tasks_from (n - i) i t s at ≡ Ok t
  tasks_done h l = rw (tasks_end h, le-ltb at (length s) l)

tasks_turn :
    (n i : ℕ) (t : Table) (s : List ℕ) (at : ℕ) (task : Task) (next : ℕ) → i < n → task_at s at ≡ Ok (task, next)
    → tasks_from (n - i) i t s at ≡ tasks_from (n - (i + 1)) (i + 1) (with_task t i task) s next
tasks_turn n i t s at task next h e =
    tasks_left n i t s at h ∙ ap (λ r. and_then r (λ task next. tasks_from (n - (i + 1)) (i + 1) (with_task t i task) s next)) e

tasks_refused :
    (n i : ℕ) (t : Table) (s : List ℕ) (at : ℕ) (r : Refusal) → i < n → task_at s at ≡ Err r → tasks_from (n - i) i t s at ≡ Err r
tasks_refused n i t s at r h e =
    tasks_left n i t s at h ∙ ap (λ r. and_then r (λ task next. tasks_from (n - (i + 1)) (i + 1) (with_task t i task) s next)) e

pub loop-i-init : goal.loop-i-init
loop-i-init c = let a = c.args in let e : a.n ≡ a.n - 0 = omega arith in ap (λ k. tasks_from k 0 c.empty-t.result a.s.now a.from) e

pub returns-in_err-task : goal.returns-in_err-task
unfolding from_tasks
returns-in_err-task c =
    let a = c.args in
    let e = sym c.read_task.ensures ∙ c.in_err-task.was in
    let h : c.loop-i.i < a.n = omega arith in
    let f = rw c.empty-t.ensures at (c.loop-i.invariant ∙ tasks_refused a.n c.loop-i.i _ _ _ _ h e) in
    rw f (search rules)

pub loop-i-preserved : goal.loop-i-preserved
loop-i-preserved c =
    let a = c.args in
    let e = sym c.read_task.ensures ∙ c.in_ok-task.was in
    let h : c.loop-i.i < a.n = omega arith in
    c.loop-i.invariant ∙ rw c.with_task-t.ensures (tasks_turn a.n c.loop-i.i _ _ _ _ _ h e)

pub returns-then-at-s : goal.returns-then-at-s
unfolding from_tasks
returns-then-at-s c =
    let a = c.args in
    sym (rw c.empty-t.ensures at (c.loop-i.invariant ∙ tasks_over a.n c.loop-i.i c.loop-i.t a.s.now c.loop-i.at (omega arith) c.if-at-s.true))

pub returns : goal.returns
unfolding from_tasks
returns c =
    let a = c.args in
    sym (rw c.empty-t.ensures at (c.loop-i.invariant ∙ tasks_done a.n c.loop-i.i c.loop-i.t a.s.now c.loop-i.at (omega arith) c.if-at-s.false))
