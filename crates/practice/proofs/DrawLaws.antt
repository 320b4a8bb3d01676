-- The numbers that draws give fit a task, and what a table is while its tasks are drawn. Assumes nothing.
use Prim.Native.Nat.{ℕ, suc, ◌+◌, ◌*◌, ◌%◌, ◌≤◌, ◌<◌, min}
use mathlib.Core.Path.{◌≡◌, refl, ap, ap₂, ◌∙◌}
use mathlib.Core.List.{List}
use native.Mathlib.Nat.{mod-lt}
use native.Mathlib.Omega.{arith}
use lib.Dec.{ltb}
use lib.ListN.{set}
use borrow.Author.Tests.{ltb-true, ltb-false}
use Rattle.lists.specs.Lists.{pick, front}
use Rattle.lists.proofs.Bools.{by_bool}
use Rattle.lists.proofs.Fill.{front_more, front_eight}
use Rattle.tasks.specs.Sheet.{empty_table, with_task}
use Rattle.tasks.specs.declared.sheet.Task.{Task}
use Rattle.tasks.specs.declared.table.Table.{Table}
use Rattle.tasks.proofs.Tables.{FitTask}
use Rattle.practice.specs.Practice.{drawn, draw, gap_drawn, deadline_drawn, work_drawn, practice_table}

-- the next draw
draw_next : (k s : ℕ) → drawn (draw k s) ≡ draw (k + 1) s
unfolding draw
draw_next k s = let e : suc k ≡ k + 1 = omega arith in ap (λ i. draw i s) e

-- 1 and a remainder by k are 1 to k
within : (x k : ℕ) → 0 < k → 1 + x % k ≤ k
within x k h = omega (arith, mod-lt x h)

-- LAW: the numbers that three draws give keep 1 ≤ C ≤ D ≤ P ≤ 200, whatever the draws are
pub draws_fit : (x y z : ℕ) → FitTask (1 + z % (1 + y % (1 + x % 200))) (1 + y % (1 + x % 200)) (1 + x % 200)
draws_fit x y z =
    record {
      some = omega arith;
      order = within z (1 + y % (1 + x % 200)) (omega arith);
      close = within y (1 + x % 200) (omega arith);
      short = within x 200 (omega arith);
    }

-- so do those of task i
pub drawn_fits : (i s : ℕ) → FitTask (work_drawn i s) (deadline_drawn i s) (gap_drawn i s)
unfolding gap_drawn deadline_drawn work_drawn
drawn_fits i s = draws_fit (draw (3 * i + 1) s) (draw (3 * i + 2) s) (draw (3 * i + 3) s)

-- ---- a table while its tasks are drawn

-- no more than eight tasks have entries
pub few_entries : (n : ℕ) → min n 8 ≡ pick (ltb n 8) n 8
few_entries n =
    by_bool (ltb n 8) (λ h. let l = ltb-true n 8 h in rw h (omega arith)) (λ h. let l = ltb-false n 8 h in rw h (omega arith))

-- t after i tasks, and s after three draws for each
pub record Drawing (policy m n seed : ℕ) (t : Table) (s i : ℕ) : Type 0 where
  pub head : (t.policy ≡ policy) × (t.m ≡ m) × (t.n ≡ n)
  pub work : t.work ≡ front i (λ k. work_drawn k seed)
  pub deadline : t.deadline ≡ front i (λ k. deadline_drawn k seed)
  pub gap : t.gap ≡ front i (λ k. gap_drawn k seed)
  pub last : s ≡ draw (3 * i) seed

-- the three draws of a task, and the numbers that they give
pub record TaskDrawn (s first second third : ℕ) (task : Task) : Type 0 where
  pub one : first ≡ drawn s
  pub two : second ≡ drawn first
  pub three : third ≡ drawn second
  pub gap : task.gap ≡ 1 + first % 200
  pub deadline : task.deadline ≡ 1 + second % task.gap
  pub work : task.work ≡ 1 + third % task.deadline

module _ {policy m n seed : ℕ} where
  pub drawing_start : Drawing policy m n seed (empty_table policy m n) seed 0
  unfolding draw
  drawing_start = record { head = (refl, refl, refl); work = refl; deadline = refl; gap = refl; last = refl }

  -- task i, of the draws 3 i + 1, 3 i + 2 and 3 i + 3
  module _ {t : Table} {s i first second third : ℕ} {task : Task} (w : Drawing policy m n seed t s i) (d : TaskDrawn s first second third task) where
    first_is : first ≡ draw (3 * i + 1) seed
    first_is = d.one ∙ ap drawn w.last ∙ draw_next (3 * i) seed

    second_is : second ≡ draw (3 * i + 2) seed
    second_is =
        let e : 3 * i + 1 + 1 ≡ 3 * i + 2 = omega arith in
        d.two ∙ ap drawn first_is ∙ draw_next (3 * i + 1) seed ∙ ap (λ k. draw k seed) e

    third_is : third ≡ draw (3 * i + 3) seed
    third_is =
        let e : 3 * i + 2 + 1 ≡ 3 * i + 3 = omega arith in
        d.three ∙ ap drawn second_is ∙ draw_next (3 * i + 2) seed ∙ ap (λ k. draw k seed) e

    gap_is : task.gap ≡ gap_drawn i seed
    unfolding gap_drawn
    gap_is = d.gap ∙ ap (λ x. 1 + x % 200) first_is

    deadline_is : task.deadline ≡ deadline_drawn i seed
    unfolding deadline_drawn
    deadline_is = d.deadline ∙ ap₂ (λ x g. 1 + x % g) second_is gap_is

    work_is : task.work ≡ work_drawn i seed
    unfolding work_drawn
    work_is = d.work ∙ ap₂ (λ x g. 1 + x % g) third_is deadline_is

    set_more : {l : List ℕ} {x : ℕ} (f : ℕ → ℕ) → l ≡ front i f → x ≡ f i → i < 8 → set l i x ≡ front (i + 1) f
    set_more f e q h = ap₂ (λ l x. set l i x) e q ∙ front_more f i h

    -- with the numbers of task i set
    pub drawing_step : i < 8 → Drawing policy m n seed (with_task t i task) third (i + 1)
    unfolding with_task
    drawing_step h =
        let e : 3 * i + 3 ≡ 3 * (i + 1) = omega arith in
        record {
          head = w.head;
          work = set_more (λ j. work_drawn j seed) w.work work_is h;
          deadline = set_more (λ j. deadline_drawn j seed) w.deadline deadline_is h;
          gap = set_more (λ j. gap_drawn j seed) w.gap gap_is h;
          last = third_is ∙ ap (λ k. draw k seed) e;
        }

  -- the first n tasks, or all eight, are the whole
  pub drawing_end : {t : Table} {s i : ℕ} → Drawing policy m n seed t s i → i ≡ pick (ltb n 8) n 8 → t ≡ practice_table policy m n seed
  unfolding practice_table
  drawing_end {t} {s} {i} w e =
      let all : (f : ℕ → ℕ) → front i f ≡ front n f = λ f. ap (λ k. front k f) e ∙ front_eight n f in
      λ k.
      record {
        policy = w.head.0 k;
        m = w.head.1 k;
        n = w.head.2 k;
        work = (w.work ∙ all (λ j. work_drawn j seed)) k;
        deadline = (w.deadline ∙ all (λ j. deadline_drawn j seed)) k;
        gap = (w.gap ∙ all (λ j. gap_drawn j seed)) k;
      }
