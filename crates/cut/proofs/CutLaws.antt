-- What a cut leaves of each task and of each bit, and that a cut of a cut is one cut. Assumes nothing.
use Prim.Native.Nat.{ℕ, ◌≤◌, ◌<◌}
use mathlib.Core.Path.{◌≡◌, refl, ap, ap₂, ◌∙◌}
use mathlib.Core.List.{List, [], ◌∷◌}
use mathlib.Core.Bool.{false}
use lib.Dec.{eqb, ltb}
use lib.ListN.{get_or}
use borrow.Author.Tests.{lt-ltb, le-ltb, ltb-true, ltb-false}
use Rattle.lists.specs.Lists.{pick}
use Rattle.lists.proofs.Bools.{by_bool}
use Rattle.lists.proofs.Digits.{low_digit, high_digit, low_low}
use Rattle.lists.proofs.Fill.{eight_at, eight_same, front_at, front_front}
use Rattle.tasks.specs.State.{start}
use Rattle.tasks.specs.Tick.{bit}
use Rattle.tasks.specs.declared.state.State.{State}
use Rattle.tasks.specs.declared.table.Table.{Table}
use Rattle.cut.specs.Cut.{first_of, cut_table, cut_state, cut_mask, cut_list}

-- ---- each task

-- the numbers of the first k tasks stay
pub first_in : (k : ℕ) (l : List ℕ) (i : ℕ) → i < 8 → i < k → get_or (first_of k l) i 0 ≡ get_or l i 0
first_in k l i h b = front_at k (λ j. get_or l j 0) i h ∙ ap (λ x. pick x (get_or l i 0) 0) (lt-ltb i k b)

-- all others are 0
pub first_out : (k : ℕ) (l : List ℕ) (i : ℕ) → i < 8 → k ≤ i → get_or (first_of k l) i 0 ≡ 0
first_out k l i h b = front_at k (λ j. get_or l j 0) i h ∙ ap (λ x. pick x (get_or l i 0) 0) (le-ltb i k b)

-- the numbers of task i in a table and a state
pub record TaskHas (t : Table) (s : State) (i C D P left next : ℕ) : Type 0 where
  pub work : get_or t.work i 0 ≡ C
  pub deadline : get_or t.deadline i 0 ≡ D
  pub gap : get_or t.gap i 0 ≡ P
  pub c : get_or s.c i 0 ≡ left
  pub p : get_or s.p i 0 ≡ next

-- task i has the same numbers in two tables and two states
abbrev pub SameTask : Table → Table → State → State → ℕ → Type 0
SameTask t u s v i = TaskHas t s i (get_or u.work i 0) (get_or u.deadline i 0) (get_or u.gap i 0) (get_or v.c i 0) (get_or v.p i 0)

-- every number of task i is 0
abbrev pub NoTask : Table → State → ℕ → Type 0
NoTask t s i = TaskHas t s i 0 0 0 0 0

module _ (k : ℕ) (t : Table) (s : State) (i : ℕ) (h : i < 8) where
  task_at_lem :
      TaskHas (cut_table k t) (cut_state k s) i (pick (ltb i k) (get_or t.work i 0) 0) (pick (ltb i k) (get_or t.deadline i 0) 0)
      (pick (ltb i k) (get_or t.gap i 0) 0) (pick (ltb i k) (get_or s.c i 0) 0) (pick (ltb i k) (get_or s.p i 0) 0)
  unfolding cut_table cut_state
  task_at_lem =
      record {
        work = front_at k (λ j. get_or t.work j 0) i h;
        deadline = front_at k (λ j. get_or t.deadline j 0) i h;
        gap = front_at k (λ j. get_or t.gap j 0) i h;
        c = front_at k (λ j. get_or s.c j 0) i h;
        p = front_at k (λ j. get_or s.p j 0) i h;
      }

  -- the first k tasks stay as they are
  pub task_in : i < k → SameTask (cut_table k t) t (cut_state k s) s i
  task_in b = rw (lt-ltb i k b) at task_at_lem

  -- no other is left
  pub task_out : k ≤ i → NoTask (cut_table k t) (cut_state k s) i
  task_out b = rw (le-ltb i k b) at task_at_lem

  -- by cases
  pub by_task : {X : Type 0} → (i < k → SameTask (cut_table k t) t (cut_state k s) s i → X) → (k ≤ i → NoTask (cut_table k t) (cut_state k s) i → X) → X
  by_task f g =
      by_bool (ltb i k)
      (λ e. let b = ltb-true i k e in f b (task_in b))
      (λ e. let b = ltb-false i k e in g b (task_out b))

-- ---- each bit

-- a mask has the bits of another below k, and none from k on
pub record LowBits (k low mask : ℕ) : Type 0 where
  pub below : (i : ℕ) → i < 8 → i < k → bit low i ≡ bit mask i
  pub above : (i : ℕ) → i < 8 → k ≤ i → bit low i ≡ false

-- LAW: so has a cut mask
pub low_bits : (k mask : ℕ) → LowBits k (cut_mask k mask) mask
unfolding cut_mask
low_bits k mask =
    record {
      below = λ i h b. ap (λ x. eqb x 1) (low_digit mask k i b);
      above = λ i h b. ap (λ x. eqb x 1) (high_digit mask k i b);
    }

-- ---- cut twice

module _ (k j : ℕ) (less : j ≤ k) where
  first_first : (l : List ℕ) → first_of j (first_of k l) ≡ first_of j l
  first_first l = front_front j k (λ i. get_or l i 0) less

  -- THEOREM: cutting to k and then to j ≤ k is cutting to j: a table, a state, a mask, a list
  pub table_again_lem : (t : Table) → cut_table j (cut_table k t) ≡ cut_table j t
  unfolding cut_table
  table_again_lem t =
      λ x.
      record {
        policy = t.policy;
        m = t.m;
        n = j;
        work = first_first t.work x;
        deadline = first_first t.deadline x;
        gap = first_first t.gap x;
      }

  pub state_again : (s : State) → cut_state j (cut_state k s) ≡ cut_state j s
  unfolding cut_state
  state_again s = λ x. record { c = first_first s.c x; p = first_first s.p x }

  pub mask_again : (mask : ℕ) → cut_mask j (cut_mask k mask) ≡ cut_mask j mask
  unfolding cut_mask
  mask_again mask = low_low mask k j less

  pub list_again : (l : List ℕ) → cut_list j (cut_list k l) ≡ cut_list j l
  unfolding cut_list
  list_again [] = refl
  list_again (mask ∷ masks) = ap₂ (λ x l. x ∷ l) (mask_again mask) (list_again masks)

-- ---- the start state

zeros_cut : (k : ℕ) → first_of k start.c ≡ start.c
zeros_cut k =
    eight_same (λ i. pick (ltb i k) (get_or start.c i 0) 0) (λ i. 0)
    (λ i h. by_bool (ltb i k) (λ e. rw e (eight_at 0 (λ j. 0) i h)) (λ e. rw e))

pub start_cut : (k : ℕ) → cut_state k start ≡ start
unfolding cut_state
start_cut k = λ x. record { c = zeros_cut k x; p = zeros_cut k x }
