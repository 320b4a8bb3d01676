-- What a task's rule says, and what a valid table is. Assumes nothing.
use Prim.Native.Nat.{ℕ, ◌≤◌, ◌<◌}
use mathlib.Core.Path.{◌≡◌, refl}
use mathlib.Core.Bool.{Bool, true, false, ◌||◌}
use native.Mathlib.Omega.{arith}
use lib.Dec.{ltb}
use lib.ListN.{get_or}
use borrow.Author.Tests.{lt-ltb, le-ltb, ltb-true, ltb-false}
use Rattle.lists.specs.Lists.{pick, any}
use Rattle.tasks.specs.Table.{last_policy, outside, breaks, fault_at, table_fault}
use Rattle.tasks.specs.Refusals.{refusal_number, refusal_at}
use Rattle.tasks.specs.declared.table.Table.{Table}
use Rattle.tasks.proofs.Refusals.{pick_case, Named}
use Rattle.lists.proofs.Bools.{by_bool, nor_left, nor_right}
use Rattle.lists.proofs.Counts.{any_false, none_any}

-- 1 ≤ C ≤ D ≤ P ≤ 200
pub record FitTask (work deadline gap : ℕ) : Type 0 where
  pub some : 1 ≤ work
  pub order : work ≤ deadline
  pub close : deadline ≤ gap
  pub short : gap ≤ 200

pub fit_task : {work deadline gap : ℕ} → breaks work deadline gap ≡ false → FitTask work deadline gap
unfolding breaks
fit_task {work} {deadline} {gap} e =
    let e₁ = nor_left (ltb work 1 || ltb deadline work || ltb gap deadline) (ltb 200 gap) e in
    let e₂ = nor_left (ltb work 1 || ltb deadline work) (ltb gap deadline) e₁ in
    record {
      some = ltb-false work 1 (nor_left (ltb work 1) (ltb deadline work) e₂);
      order = ltb-false deadline work (nor_right (ltb work 1) (ltb deadline work) e₂);
      close = ltb-false gap deadline (nor_right (ltb work 1 || ltb deadline work) (ltb gap deadline) e₁);
      short = ltb-false 200 gap (nor_right (ltb work 1 || ltb deadline work || ltb gap deadline) (ltb 200 gap) e);
    }

pub task_fits : {work deadline gap : ℕ} → FitTask work deadline gap → breaks work deadline gap ≡ false
unfolding breaks
task_fits {work} {deadline} {gap} f =
    rw (le-ltb work 1 f.some, le-ltb deadline work f.order, le-ltb gap deadline f.close, le-ltb 200 gap f.short)

-- what a valid table keeps to
pub record Valid (t : Table) : Type 0 where
  pub policy : t.policy ≤ last_policy
  pub processors : (1 ≤ t.m) × (t.m ≤ 8)
  pub tasks : (1 ≤ t.n) × (t.n ≤ 8)
  pub each : (i : ℕ) → i < t.n → FitTask (get_or t.work i 0) (get_or t.deadline i 0) (get_or t.gap i 0)
  pub rest : (i : ℕ) → t.n ≤ i → i < 8 → (get_or t.work i 0 ≡ 0) × (get_or t.deadline i 0 ≡ 0) × (get_or t.gap i 0 ≡ 0)

-- C ≤ D ≤ P ≤ 200 of task i
pub record Ordered (t : Table) (i : ℕ) : Type 0 where
  pub work : get_or t.work i 0 ≤ get_or t.deadline i 0
  pub deadline : get_or t.deadline i 0 ≤ get_or t.gap i 0
  pub least : get_or t.gap i 0 ≤ 200

-- a refusal that is 0 was not picked
pub pick_zero : (b : Bool) (k r : ℕ) → 0 < k → pick b k r ≡ 0 → (b ≡ false) × (r ≡ 0)
pick_zero true k r h e = absurd (omega arith)
pick_zero false k r h e = (refl, e)

inside : (x : ℕ) → outside x ≡ false → (1 ≤ x) × (x ≤ 8)
inside x e = (ltb-false x 1 (nor_left (ltb x 1) (ltb 8 x) e), ltb-false 8 x (nor_right (ltb x 1) (ltb 8 x) e))

inside_no : (x : ℕ) → 1 ≤ x → x ≤ 8 → outside x ≡ false
inside_no x h l = rw (le-ltb x 1 h, le-ltb 8 x l)

module _ (t : Table) where
  each_fits : (i : ℕ) → fault_at t i ≡ false → i < t.n → FitTask (get_or t.work i 0) (get_or t.deadline i 0) (get_or t.gap i 0)
  unfolding fault_at
  each_fits i e h = fit_task (rw (lt-ltb i t.n h) at e)

  rest_zero : (i : ℕ) → fault_at t i ≡ false → t.n ≤ i → (get_or t.work i 0 ≡ 0) × (get_or t.deadline i 0 ≡ 0) × (get_or t.gap i 0 ≡ 0)
  unfolding fault_at
  rest_zero i e h =
      let C = get_or t.work i 0 in
      let D = get_or t.deadline i 0 in
      let P = get_or t.gap i 0 in
      let f : ltb 0 C || ltb 0 D || ltb 0 P ≡ false = rw (le-ltb i t.n h) at e in
      let g = nor_left (ltb 0 C || ltb 0 D) (ltb 0 P) f in
      (omega (arith, ltb-false 0 C (nor_left (ltb 0 C) (ltb 0 D) g)), omega (arith, ltb-false 0 D (nor_right (ltb 0 C) (ltb 0 D) g)), omega (arith, ltb-false 0 P (nor_right (ltb 0 C || ltb 0 D) (ltb 0 P) f)))

  -- a table that is not refused is valid
  pub valid : table_fault t ≡ 0 → Valid t
  unfolding table_fault
  valid e =
      let tasks : ℕ = pick (any 8 (fault_at t)) 7 0 in
      let a = pick_zero (ltb last_policy t.policy) 4 (pick (outside t.m) 5 (pick (outside t.n) 6 tasks)) (omega arith) e in
      let b = pick_zero (outside t.m) 5 (pick (outside t.n) 6 tasks) (omega arith) a.1 in
      let c = pick_zero (outside t.n) 6 tasks (omega arith) b.1 in
      let d = pick_zero (any 8 (fault_at t)) 7 0 (omega arith) c.1 in
      let n = inside t.n c.0 in
      record {
        policy = ltb-false last_policy t.policy a.0;
        processors = inside t.m b.0;
        tasks = n;
        each = λ i h. each_fits i (any_false (fault_at t) 8 i d.0 (omega (arith, n.1))) h;
        rest = λ i h l. rest_zero i (any_false (fault_at t) 8 i d.0 l) h;
      }

  fault_none : Valid t → (i : ℕ) → i < 8 → fault_at t i ≡ false
  unfolding fault_at
  fault_none v i l =
      by_bool (ltb i t.n)
      (λ h. rw h (task_fits (v.each i (ltb-true i t.n h))))
      (λ h.
      let z = v.rest i (ltb-false i t.n h) l in
      rw (h, z.0, z.1, z.2))

  -- and a valid one is not refused
  pub not_refused : Valid t → table_fault t ≡ 0
  unfolding table_fault
  not_refused v =
      rw
      (le-ltb last_policy t.policy v.policy, inside_no t.m v.processors.0 v.processors.1, inside_no t.n v.tasks.0 v.tasks.1, none_any (fault_at t) 8 (fault_none v))

  -- a table's refusal is one of the list
  pub fault_number : 0 < table_fault t → table_fault t ≡ refusal_number (refusal_at (table_fault t))
  unfolding table_fault refusal_at
  fault_number =
      pick_case Named (ltb last_policy t.policy) {x = 4} (λ h. refl)
      (pick_case Named (outside t.m) {x = 5} (λ h. refl)
      (pick_case Named (outside t.n) {x = 6} (λ h. refl)
      (pick_case Named (any 8 (fault_at t)) {x = 7} {y = 0} (λ h. refl) (λ h. absurd (omega arith)))))

  -- C ≤ D ≤ P ≤ 200 for every entry, also after the nth, where all are 0
  pub ordered : table_fault t ≡ 0 → (i : ℕ) → i < 8 → Ordered t i
  ordered e i h =
      let v = valid e in
      by_bool (ltb i t.n)
      (λ l. let f = v.each i (ltb-true i t.n l) in record { work = f.order; deadline = f.close; least = f.short })
      (λ l. let z = v.rest i (ltb-false i t.n l) h in record { work = omega (arith, z.0); deadline = omega (arith, z.1); least = omega (arith, z.2) })
