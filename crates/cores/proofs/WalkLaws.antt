-- A walk that gives out processors: its start, its steps and its end. Assumes nothing.
use Prim.Native.Nat.{ℕ, ◌+◌, ◌≤◌, ◌<◌}
use mathlib.Core.Path.{◌≡◌, refl, sym, ap, ap₂, ◌∙◌}
use mathlib.Core.List.{List}
use mathlib.Core.Bool.{Bool, true, false, ◌&&◌}
use native.Mathlib.Omega.{arith}
use lib.Dec.{eqb, ltb}
use lib.ListN.{get_or}
use borrow.Author.Tests.{ltb-true, ltb-false, le-ltb}
use Rattle.lists.specs.Lists.{eight, pick, count}
use Rattle.lists.proofs.Bools.{by_bool}
use Rattle.lists.proofs.Counts.{count_same}
use Rattle.lists.proofs.Fill.{eight_at, eight_same}
use Rattle.cores.specs.Walk.{under, rank, kept_count, ready_count, taken, served, tasks_in, most_of, Walked}
use Rattle.cores.proofs.RankLaws.{rank_read, few_taken, all_taken, step_taken, number_taken}

-- ---- tests as numbers

one_test : (b : Bool) → eqb (pick b 1 0) 1 ≡ b
one_test true = refl
one_test false = refl

-- as many tasks are chosen as pass the test
pub tasks_tested : (p : ℕ → Bool) → tasks_in (eight (λ i. pick (p i) 1 0)) ≡ count 8 p
unfolding tasks_in
tasks_tested p =
    count_same (λ i. eqb (get_or (eight (λ i. pick (p i) 1 0)) i 0) 1) p 8
    (λ k h. ap (λ x. eqb x 1) (eight_at 0 (λ i. pick (p i) 1 0) k h) ∙ one_test (p k))

-- one that has a processor already has one in any case
pick_fresh : (b t : Bool) → ◌≡◌ {A = ℕ} (pick (b && eqb (pick t 1 0) 0) 1 (pick t 1 0)) (pick b 1 (pick t 1 0))
pick_fresh true true = refl
pick_fresh true false = refl
pick_fresh false true = refl
pick_fresh false false = refl

some_test : (b : Bool) → ltb 0 (pick b 1 0) ≡ b
some_test true = refl
some_test false = refl

module _ (places : List ℕ) (c : ℕ) {run : List ℕ} (e : run ≡ served places c) (i : ℕ) (h : i < 8) where
  -- LAW: the number of a task in the tasks chosen, and what it says
  pub served_at : get_or run i 0 ≡ pick (taken places c i) 1 0
  unfolding served
  served_at = ap (λ l. get_or l i 0) e ∙ eight_at 0 (λ i. pick (taken places c i) 1 0) i h

  pub served_test : ltb 0 (get_or run i 0) ≡ taken places c i
  served_test = ap (ltb 0) served_at ∙ some_test (taken places c i)

module _ (places : List ℕ) (m : ℕ) where
  -- m is at most the most
  pub most_all : m ≤ most_of places m
  unfolding most_of
  most_all =
      by_bool (ltb m (kept_count places))
      (λ e. rw e (omega (arith, ltb-true m (kept_count places) e)))
      (λ e. rw e (omega arith))

  most_kept : kept_count places ≤ most_of places m
  unfolding most_of
  most_kept =
      by_bool (ltb m (kept_count places))
      (λ e. rw e (omega arith))
      (λ e. rw e (ltb-false m (kept_count places) e))

  -- LAW: where no more than m jobs keep their processors, the number given out is at most m
  pub most_few : kept_count places ≤ m → most_of places m ≡ m
  unfolding most_of
  most_few l = rw (le-ltb m (kept_count places) l)

  -- ---- the start

  kept_served : eight (λ i. pick (under places 1 i) 1 0) ≡ served places (kept_count places)
  unfolding served
  kept_served =
      eight_same (λ i. pick (under places 1 i) 1 0) (λ i. pick (taken places (kept_count places) i) 1 0)
      (λ i h. ap (λ b. pick b 1 0) (sym (few_taken places (kept_count places) i h (omega arith))))

  pub walk_start :
      {run : List ℕ} {c : ℕ} → run ≡ eight (λ i. pick (under places 1 i) 1 0) → c ≡ count 8 (under places 1)
      → Walked places m run c × (c ≡ kept_count places)
  unfolding kept_count
  walk_start {run} {c} r e = (
    record {
      first = r ∙ kept_served ∙ ap (served places) (sym e);
      number = e ∙ sym (tasks_tested (under places 1)) ∙ ap tasks_in (sym r);
      most = omega (arith, most_kept);
    },
    e,
  )

  -- ---- a step

  step_served :
      {ranks run : List ℕ} {c : ℕ} → ranks ≡ eight (rank places 8) → run ≡ served places c → c < ready_count places
      → eight (λ i. pick (eqb (get_or ranks i 0) c && eqb (get_or run i 0) 0) 1 (get_or run i 0)) ≡ served places (c + 1)
  unfolding served
  step_served {ranks} {run} {c} e r l =
      eight_same (λ i. pick (eqb (get_or ranks i 0) c && eqb (get_or run i 0) 0) 1 (get_or run i 0)) (λ i. pick (taken places (c + 1) i) 1 0)
      (λ i h.
      ap₂ (λ x y. pick (eqb x c && eqb y 0) 1 y)
      (rank_read places 8 i e h)
      (served_at places c r i h)
      ∙ pick_fresh (eqb (rank places 8 i) c) (taken places c i)
      ∙ step_taken places c i h l)

  served_count : (c : ℕ) → tasks_in (served places c) ≡ count 8 (taken places c)
  unfolding served
  served_count c = tasks_tested (taken places c)

  -- LAW: a step gives a processor to one task more
  pub walk_step :
      {ranks run next : List ℕ} {c : ℕ} → ranks ≡ eight (rank places 8) → Walked places m run c → c < m → c < ready_count places
      → next ≡ eight (λ i. pick (eqb (get_or ranks i 0) c && eqb (get_or run i 0) 0) 1 (get_or run i 0)) → Walked places m next (c + 1)
  walk_step {ranks} {run} {next} {c} e w l r n =
      let is : next ≡ served places (c + 1) = n ∙ step_served e w.first r in
      record {
        first = is;
        number =
            let before : c ≡ count 8 (taken places c) = w.number ∙ ap tasks_in w.first ∙ served_count c in
            number_taken places c before r ∙ sym (served_count (c + 1)) ∙ ap tasks_in (sym is);
        most = omega (arith, most_all);
      }

  all_served : (c : ℕ) → ready_count places ≤ c → eight (λ i. pick (under places 65534 i) 1 0) ≡ served places c
  unfolding served
  all_served c l =
      eight_same (λ i. pick (under places 65534 i) 1 0) (λ i. pick (taken places c i) 1 0)
      (λ i h. ap (λ b. pick b 1 0) (sym (all_taken places c i h l)))

  -- LAW: a step that gives all that wait a processor
  pub walk_rest :
      {run : List ℕ} {c : ℕ} → run ≡ eight (λ i. pick (under places 65534 i) 1 0) → c ≡ ready_count places → c ≤ m → Walked places m run c
  unfolding ready_count
  walk_rest {run} {c} r e l =
      record {
        first = r ∙ all_served c (omega arith);
        number = e ∙ sym (tasks_tested (under places 65534)) ∙ ap tasks_in (sym r);
        most = omega (arith, most_all);
      }

  -- ---- the end

  few_served : (c d : ℕ) → c ≤ kept_count places → d ≤ kept_count places → served places c ≡ served places d
  unfolding served
  few_served c d a b =
      eight_same (λ i. pick (taken places c i) 1 0) (λ i. pick (taken places d i) 1 0)
      (λ i h. ap (λ b. pick b 1 0) (few_taken places c i h a ∙ sym (few_taken places d i h b)))

  -- LAW: a walk is over when m processors are given out, or all that are ready have one
  pub walk_full : {run : List ℕ} {c : ℕ} → Walked places m run c → m ≤ c → run ≡ served places m
  unfolding most_of
  walk_full {run} {c} w l =
      w.first
      ∙ by_bool (ltb m (kept_count places))
      (λ e. few_served c m (rw e at w.most) (omega (arith, ltb-true m (kept_count places) e)))
      (λ e. let same : c ≡ m = omega (arith, rw e at w.most) in ap (served places) same)

  pub walk_all : {run : List ℕ} {c : ℕ} → Walked places m run c → ready_count places ≤ c → c ≤ m → run ≡ served places m
  walk_all {run} {c} w r l = w.first ∙ sym (all_served c r) ∙ all_served m (omega arith)
