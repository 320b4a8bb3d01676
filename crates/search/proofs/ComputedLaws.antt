-- The computation of a table's verdict is right. Assumes nothing.
use Prim.Native.Nat.{ℕ, zero, suc, ◌^◌, ◌≤◌, ◌<◌}
use mathlib.Core.Path.{◌≡◌, refl, sym, ap, ◌∙◌}
use mathlib.Core.Logic.{◌⊎◌}
use mathlib.Core.Logic.◌⊎◌.{inl, inr}
use mathlib.Core.Bool.{true, ◌&&◌, ◌||◌}
use mathlib.Core.List.Memᴰ
use mathlib.Core.List.{List, [], ◌∷◌, Memᴰ}
use native.Mathlib.Omega.{arith}
use native.Mathlib.Decide.{ℕ_discrete, dec_lt}
use lib.Dec.{eqb, ltb, leb}
use lib.Pow.{pow_mono}
use borrow.Author.Tests.{eqb-true, eq-eqb, ltb-true, leb-true}
use Rattle.lists.specs.Lists.{any}
use Rattle.tasks.specs.Table.{table_fault}
use Rattle.tasks.specs.State.{improper}
use Rattle.tasks.specs.Tick.{bit, illegal, refusal}
use Rattle.tasks.specs.declared.state.State.{State}
use Rattle.tasks.specs.declared.table.Table.{Table}
use Rattle.lists.proofs.Bools.{by_bool, clash, and_left, and_right, both, or_cases}
use Rattle.lists.proofs.Counts.{any_some}
use Rattle.tasks.proofs.Legal.{beyond_illegal}
use Rattle.levels.specs.Verdict.{Answer, Verdict}
use Rattle.levels.specs.Verdict.Tick.{Refused}
use Rattle.levels.specs.Compute.Computed.{Answered, OutOfFuel}
use Rattle.levels.proofs.Legal.{FinitelyBranching}
use Rattle.levels.proofs.Compute.{computed_right, computed_ends}
use Rattle.states.specs.System.{step, system}
use Rattle.search.specs.Computed.{same_numbers, same_states, below, verdict_of}
use Rattle.states.proofs.MaskTest.{all}
use Rattle.states.proofs.MaskLaws.{all_at}
use Rattle.states.proofs.SystemLaws.{step_large, step_refused}

-- ---- states by their numbers

same_numbers_lem : (a b : List ℕ) → same_numbers a b ≡ true → a ≡ b
unfolding same_numbers
same_numbers_lem [] [] e = refl
same_numbers_lem [] (y ∷ ys) e = clash refl (sym e)
same_numbers_lem (x ∷ xs) [] e = clash refl (sym e)
same_numbers_lem (x ∷ xs) (y ∷ ys) e =
    let h = eqb-true x y (and_left (eqb x y) (same_numbers xs ys) e) in
    let t = same_numbers_lem xs ys (and_right (eqb x y) (same_numbers xs ys) e) in
    cc

numbers_same : (a : List ℕ) → same_numbers a a ≡ true
unfolding same_numbers
numbers_same [] = refl
numbers_same (x ∷ xs) = both (eq-eqb x x refl) (numbers_same xs)

same_states_lem : (s u : State) → same_states s u ≡ true → s ≡ u
unfolding same_states
same_states_lem s u e =
    let c = same_numbers_lem s.c u.c (and_left (same_numbers s.c u.c) (same_numbers s.p u.p) e) in
    let p = same_numbers_lem s.p u.p (and_right (same_numbers s.c u.c) (same_numbers s.p u.p) e) in
    ap (λ x. record { c = x; p = s.p }) c ∙ ap (λ x. record { c = u.c; p = x }) p

states_same : (s : State) → same_states s s ≡ true
unfolding same_states
states_same s = both (numbers_same s.c) (numbers_same s.p)

-- ---- the masks of a table

below_has : (n m : ℕ) → m < n → Memᴰ m (below n)
unfolding below
below_has zero m h = absurd (omega arith)
below_has (suc n) m h =
    elim (ℕ_discrete m n) [
      | yes e ↦ Memᴰ.append_right (below n) (Memᴰ.head e)
      | no e ↦ Memᴰ.append_left (n ∷ []) (below_has n m (omega arith))
    ]

-- a byte from 2^n on has a bit from bit n on
high : all 8 (λ n. all 256 (λ m. ltb m (2 ^ n) || any 8 (λ i. leb n i && bit m i))) ≡ true
unfolding all any
high = refl

module _ (t : Table) (s : State) (m : ℕ) where
  illegal_positive : illegal t s m ≡ true → 0 < refusal t s m
  unfolding refusal
  illegal_positive e =
      by_bool (ltb 0 (table_fault t))
      (λ h. rw h (ltb-true 0 (table_fault t) h))
      (λ h. rw (h, e) (by_bool (improper t s) (λ q. rw q (omega arith)) (λ q. rw q (omega arith))))

  -- a mask with a bit for no task is refused, from any state
  refused_beyond : 2 ^ t.n ≤ m → step t s m ≡ Refused
  refused_beyond h =
      elim (dec_lt m 256) [
        | no b ↦ step_large t s m (omega arith)
        | yes b ↦
            elim (dec_lt t.n 8) [
              | yes l ↦
                  let some =
                  all_at 256 (λ m. ltb m (2 ^ t.n) || any 8 (λ i. leb t.n i && bit m i))
                  (all_at 8 (λ n. all 256 (λ m. ltb m (2 ^ n) || any 8 (λ i. leb n i && bit m i))) high t.n l) m b in
                  or_cases (ltb m (2 ^ t.n)) (any 8 (λ i. leb t.n i && bit m i)) some
                  (λ e. absurd (omega (arith, ltb-true m (2 ^ t.n) e)))
                  (λ e r.
                  let (i, k, on) = any_some (λ i. leb t.n i && bit m i) 8 r in
                  step_refused t s m
                  (illegal_positive
                  (beyond_illegal t s m i k (and_right (leb t.n i) (bit m i) on) (leb-true t.n i (and_left (leb t.n i) (bit m i) on)))))
              | no l ↦ absurd (let q : 2 ^ 8 ≤ 2 ^ t.n = pow_mono {i = 8} {j = t.n} (omega arith) in omega arith)
            ]
      ]

-- LAW: the system of a table is finitely branching, so every N(d) exists
pub branching : (t : Table) → FinitelyBranching (system t) same_states (below (2 ^ t.n))
branching t =
    record {
      equal = same_states_lem;
      different = λ s u e q. clash (rw q (states_same u)) e;
      others = others;
    }
  where
    others : (s : State) (m : ℕ) → Memᴰ m (below (2 ^ t.n)) ⊎ (step t s m ≡ Refused)
    others s m =
        elim (dec_lt m (2 ^ t.n)) [
          | yes h ↦ inl (below_has (2 ^ t.n) m h)
          | no h ↦ inr (refused_beyond t s m (omega arith))
        ]

-- LAW: what is computed is the verdict, and under Unsafe its masks are a list that misses; with K slots it always answers
module _ (t : Table) (K : ℕ) (some : 1 ≤ K) where
  pub verdict_right : (a : Answer) (masks : List ℕ) → verdict_of t K ≡ Answered a masks → Verdict (system t) K a masks
  unfolding verdict_of
  verdict_right a masks e = computed_right (system t) same_states (below (2 ^ t.n)) (branching t) K some K a masks e

  pub verdict_answers : verdict_of t K ≡ OutOfFuel → ⊥
  unfolding verdict_of
  verdict_answers e = computed_ends (system t) same_states (below (2 ^ t.n)) (branching t) K some K (omega arith) e
