-- What is common to every order of the jobs: at most m jobs run. Assumes nothing.
use Prim.Native.Nat.{ℕ, ◌≤◌, ◌<◌}
use mathlib.Core.Path.{◌≡◌}
use mathlib.Core.Bool.{Bool, true, false, not, ◌&&◌, ◌||◌}
use mathlib.Core.Logic.{⊎_elim}
use native.Mathlib.Omega.{arith}
use lib.Dec.{ltb}
use lib.ListN.{get_or}
use borrow.Author.Tests.{ltb-true}
use Rattle.lists.specs.Lists.{count}
use Rattle.tasks.specs.State.{ready, keeps}
use Rattle.tasks.specs.Tick.{key, age, before, ahead, runs}
use Rattle.tasks.specs.declared.state.State.{State}
use Rattle.tasks.specs.declared.table.Table.{Table}
use Rattle.lists.proofs.Bools.{by_bool, clash, and_left, and_right, both, or_left, or_right, or_cases, not_yes, not_no}
use Rattle.lists.proofs.Counts.{count_mono, count_but_one}
use Rattle.tasks.proofs.Order.{Order, by_number, upward, downward, by_rank, Last, last}

module _ (t : Table) (s : State) where
  -- LAW: the order of the jobs is strict and total, whatever the policy
  pub in_order : Order (before t s)
  unfolding before
  in_order = by_rank _ _ (upward (key t s)) (by_rank _ ltb (downward (age t s)) by_number)

  -- task i runs, and its job kept no processor
  fresh : ℕ → Bool
  fresh i = runs t s i && not (keeps t s i)

  runs_ready : (i : ℕ) → runs t s i ≡ true → ready s i ≡ true
  unfolding runs
  runs_ready i e = and_left (ready s i) (keeps t s i || ltb (count 8 (ahead t s i)) t.m) e

  -- a task that runs has work left
  pub runs_work : (i : ℕ) → runs t s i ≡ true → 0 < get_or s.c i 0
  runs_work i e = ltb-true 0 (get_or s.c i 0) (runs_ready i e)

  fresh_few : (x : ℕ) → fresh x ≡ true → count 8 (ahead t s x) < t.m
  unfolding fresh runs
  fresh_few x e =
      or_cases (keeps t s x) (ltb (count 8 (ahead t s x)) t.m)
      (and_right (ready s x) (keeps t s x || ltb (count 8 (ahead t s x)) t.m) (and_left (runs t s x) (not (keeps t s x)) e))
      (λ k. clash k (not_no (keeps t s x) (and_right (runs t s x) (not (keeps t s x)) e)))
      (λ k h. ltb-true (count 8 (ahead t s x)) t.m h)

  -- every other job that runs is ahead of the last fresh one
  runs_ahead : (x : ℕ) → Last (before t s) fresh 8 x → (k : ℕ) → k < 8 → (k ≡ x → ⊥) → runs t s k ≡ true → ahead t s x k ≡ true
  unfolding ahead fresh
  runs_ahead x l k h d e =
      both (runs_ready k e)
      (by_bool (keeps t s k) (λ y. or_left (before t s k x) y)
      (λ y. or_right (keeps t s k) (l.after k h d (both e (not_yes y)))))

  is_fresh : (k : ℕ) → runs t s k ≡ true → keeps t s k ≡ false → fresh k ≡ true
  unfolding fresh
  is_fresh k e y = both e (not_yes y)

  -- where at most m jobs keep a processor, at most m tasks run
  pub runs_fit : count 8 (keeps t s) ≤ t.m → count 8 (runs t s) ≤ t.m
  runs_fit few =
      ⊎_elim
      (λ none. omega (arith, count_mono (runs t s) (keeps t s) 8 (λ k h e. by_bool (keeps t s k) (λ y. y) (λ y. clash (is_fresh k e y) (none k h)))))
      (λ l. omega (arith, count_but_one (runs t s) (ahead t s l.0) l.0 8 (runs_ahead l.0 l.1), fresh_few l.0 l.1.holds))
      (last (before t s) in_order fresh 8)
