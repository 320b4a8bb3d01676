-- The ranks of the places, and which tasks are chosen with c processors. Assumes nothing.
use Prim.Native.Nat.{ℕ, ◌+◌, ◌-◌, ◌*◌, ◌≤◌, ◌<◌}
use mathlib.Core.Path.{◌≡◌, refl, sym, ap, ◌∙◌}
use mathlib.Core.List.{List}
use mathlib.Core.Bool.{Bool, true, false, not, ◌&&◌, ◌||◌}
use mathlib.Core.Logic.{⊎_elim}
use native.Mathlib.Omega.{arith}
use native.Mathlib.Decide.{ℕ_discrete}
use lib.Dec.{eqb, ltb}
use lib.ListN.{get_or}
use mir.Syntax.{w16}
use mir.Val.{Fits, bool_byte}
use borrow.Author.Tests.{eq-eqb, ne_eqb, ltb-true, ltb-false, lt-ltb, le-ltb}
use Rattle.lists.specs.Lists.{eight, pick, count}
use Rattle.lists.proofs.Bools.{by_bool, clash, and_left, and_right, both, or_right, not_yes, not_no}
use Rattle.lists.proofs.Counts.{count_mono, count_same, count_less, count_one_more, least_of}
use Rattle.lists.proofs.Fill.{eight_at}
use Rattle.lists.proofs.Turns.{count_turn, count_room}
use Rattle.cores.specs.Walk.{under, capped, sooner, leads, rank, kept_count, ready_count, taken}

-- ---- which of two tasks goes first

-- the number below a place decides between equal ones
below_place : (a k b i : ℕ) → k < 8 → i < 8 → (ltb a b || (eqb a b && ltb k i)) ≡ ltb (a * 8 + k) (b * 8 + i)
below_place a k b i h l =
    by_bool (ltb a b)
    (λ e. rw e (sym (lt-ltb (a * 8 + k) (b * 8 + i) (omega (arith, ltb-true a b e)))))
    (λ e. elim (ℕ_discrete a b) [
      | no d ↦ rw (e, ne_eqb a b d) (sym (le-ltb (a * 8 + k) (b * 8 + i) (omega (arith, ltb-false a b e))))
      | yes q ↦
          rw (e, eq-eqb a b q)
          (by_bool (ltb k i)
          (λ z. rw z (sym (lt-ltb (a * 8 + k) (b * 8 + i) (omega (arith, ltb-true k i z)))))
          (λ z. rw z (sym (le-ltb (a * 8 + k) (b * 8 + i) (omega (arith, ltb-false k i z))))))
    ])

-- LAW: a place with the task's number below it: one number, by which the tasks go
pub sooner_full : (y k x i : ℕ) → k < 8 → i < 8 → sooner y k x i ≡ ltb (capped y * 8 + k) (capped x * 8 + i)
unfolding sooner
sooner_full y k x i h l = below_place (capped y) k (capped x) i h l

-- LAW: in one comparison
pub sooner_once : (y k x i : ℕ) → ltb (capped y + 1 - bool_byte (ltb k i)) (capped x + 1) ≡ sooner y k x i
unfolding sooner
sooner_once y k x i =
    let a = capped y in
    let b = capped x in
    by_bool (ltb k i)
    (λ e. rw e
    (by_bool (ltb a b)
    (λ l. rw l (lt-ltb (a + 1 - 1) (b + 1) (omega (arith, ltb-true a b l))))
    (λ l. elim (ℕ_discrete a b) [
      | yes q ↦ rw (l, eq-eqb a b q) (lt-ltb (a + 1 - 1) (b + 1) (omega arith))
      | no d ↦ rw (l, ne_eqb a b d) (le-ltb (a + 1 - 1) (b + 1) (omega (arith, ltb-false a b l)))
    ])))
    (λ e. rw e
    (by_bool (ltb a b)
    (λ l. rw l (lt-ltb (a + 1 - 0) (b + 1) (omega (arith, ltb-true a b l))))
    (λ l. rw l
    (by_bool (eqb a b)
    (λ q. rw q (le-ltb (a + 1 - 0) (b + 1) (omega (arith, ltb-false a b l))))
    (λ q. rw q (le-ltb (a + 1 - 0) (b + 1) (omega (arith, ltb-false a b l))))))))

-- LAW: where both have a job, by the places themselves
pub sooner_some : (y k x i : ℕ) → y < 65534 → x < 65534 → sooner y k x i ≡ (ltb y x || (eqb y x && ltb k i))
unfolding sooner
sooner_some y k x i h l = rw (lt-ltb y 65534 h, lt-ltb x 65534 l)

module _ (places : List ℕ) where
  -- ---- the ranks, one place counted a turn

  pub rank_start : eight (λ i. 0) ≡ eight (rank places 0)
  unfolding rank count
  rank_start = refl

  module _ {ranks : List ℕ} (i j : ℕ) (e : ranks ≡ eight (rank places i)) (h : j < 8) where
    pub rank_read : get_or ranks j 0 ≡ rank places i j
    rank_read = ap (λ l. get_or l j 0) e ∙ eight_at 0 (rank places i) j h

    pub rank_turn : {b : Bool} → b ≡ sooner (get_or places i 0) i (get_or places j 0) j → get_or ranks j 0 + bool_byte b ≡ rank places (i + 1) j
    unfolding rank leads
    rank_turn is = count_turn (leads places j) i rank_read is

    pub rank_room : (b : Bool) → i ≤ 8 → Fits w16 (get_or ranks j 0 + bool_byte b)
    unfolding rank
    rank_room b k = let f = count_room (leads places j) b rank_read k in omega arith

  -- ---- how ranks compare

  -- the place of a task with its number below it
  full : ℕ → ℕ
  full i = capped (get_or places i 0) * 8 + i

  -- how many tasks are below x by it
  fewer : ℕ → ℕ
  fewer x = count 8 (λ k. ltb (full k) x)

  under_full : (x i : ℕ) → i < 8 → x ≤ 65534 → under places x i ≡ ltb (full i) (x * 8)
  unfolding under full
  under_full x i h l =
      let y = get_or places i 0 in
      by_bool (ltb y 65534)
      (λ e. rw e
      (by_bool (ltb y x)
      (λ b. b ∙ sym (lt-ltb (y * 8 + i) (x * 8) (omega (arith, ltb-true y x b))))
      (λ b. b ∙ sym (le-ltb (y * 8 + i) (x * 8) (omega (arith, ltb-false y x b))))))
      (λ e. rw e (le-ltb y x (omega (arith, ltb-false y 65534 e)) ∙ sym (le-ltb (65534 * 8 + i) (x * 8) (omega arith))))

  under_fewer : (x : ℕ) → x ≤ 65534 → count 8 (under places x) ≡ fewer (x * 8)
  unfolding fewer
  under_fewer x l = count_same (under places x) (λ k. ltb (full k) (x * 8)) 8 (λ k h. under_full x k h l)

  rank_fewer : (i : ℕ) → i < 8 → rank places 8 i ≡ fewer (full i)
  unfolding rank leads fewer full
  rank_fewer i h =
      count_same (leads places i) (λ k. ltb (full k) (full i)) 8 (λ k b. sooner_full (get_or places k 0) k (get_or places i 0) i b h)

  kept_fewer : kept_count places ≡ fewer 8
  unfolding kept_count
  kept_fewer = under_fewer 1 (omega arith)

  ready_fewer : ready_count places ≡ fewer 524272
  unfolding ready_count
  ready_fewer = under_fewer 65534 (omega arith)

  count_more : (x y : ℕ) → x ≤ y → fewer x ≤ fewer y
  unfolding fewer
  count_more x y l =
      count_mono (λ k. ltb (full k) x) (λ k. ltb (full k) y) 8 (λ k h e. lt-ltb (full k) y (omega (arith, ltb-true (full k) x e)))

  -- at most as many keep their processors as are ready
  pub kept_ready : kept_count places ≤ ready_count places
  kept_ready = omega (arith, kept_fewer, ready_fewer, count_more 8 524272 (omega arith))

  module _ (i : ℕ) (h : i < 8) where
    is_under : (x : ℕ) → x ≤ 65534 → under places x i ≡ true → full i < x * 8
    is_under x l e = ltb-true (full i) (x * 8) (sym (under_full x i h l) ∙ e)

    not_under : (x : ℕ) → x ≤ 65534 → under places x i ≡ false → x * 8 ≤ full i
    not_under x l e = ltb-false (full i) (x * 8) (sym (under_full x i h l) ∙ e)

    -- all that keep their processors go before any other
    kept_below : under places 1 i ≡ false → kept_count places ≤ rank places 8 i
    kept_below e = omega (arith, kept_fewer, rank_fewer i h, count_more 8 (full i) (not_under 1 (omega arith) e))

    -- all that are ready go before one that is not
    ready_below : under places 65534 i ≡ false → ready_count places ≤ rank places 8 i
    ready_below e = omega (arith, ready_fewer, rank_fewer i h, count_more 524272 (full i) (not_under 65534 (omega arith) e))

    -- a smaller number has a smaller rank
    rank_less : (x : ℕ) → full i < x → rank places 8 i < fewer x
    unfolding fewer
    rank_less x l =
        omega (
          arith,
          rank_fewer i h,
          count_less (λ k. ltb (full k) (full i)) (λ k. ltb (full k) x) i 8 h (λ k b e. lt-ltb (full k) x (omega (arith, ltb-true (full k) (full i) e)))
              (le-ltb (full i) (full i) (omega arith)) (lt-ltb (full i) x l),
        )

    rank_ready : under places 65534 i ≡ true → rank places 8 i < ready_count places
    rank_ready e = omega (arith, ready_fewer, rank_less 524272 (is_under 65534 (omega arith) e))

  -- ---- the tasks chosen with c processors

  kept_is_ready : (i : ℕ) → under places 1 i ≡ true → under places 65534 i ≡ true
  unfolding under
  kept_is_ready i e = lt-ltb (get_or places i 0) 65534 (omega (arith, ltb-true (get_or places i 0) 1 e))

  -- with no more processors than jobs that keep theirs, these are chosen
  pub few_taken : (c i : ℕ) → i < 8 → c ≤ kept_count places → taken places c i ≡ under places 1 i
  unfolding taken
  few_taken c i h l =
      by_bool (under places 1 i)
      (λ e. rw (e, kept_is_ready i e))
      (λ e. rw (e, le-ltb (rank places 8 i) c (omega (arith, kept_below i h e))) (by_bool (under places 65534 i) (λ b. rw b) (λ b. rw b)))

  -- with a processor for each that is ready, all are chosen
  pub all_taken : (c i : ℕ) → i < 8 → ready_count places ≤ c → taken places c i ≡ under places 65534 i
  unfolding taken
  all_taken c i h l =
      by_bool (under places 65534 i)
      (λ e. rw (e, lt-ltb (rank places 8 i) c (omega (arith, rank_ready i h e))) (by_bool (under places 1 i) (λ b. rw b) (λ b. rw b)))
      (λ e. rw e)

  ltb_next : (r c : ℕ) → (r ≡ c → ⊥) → ltb r (c + 1) ≡ ltb r c
  ltb_next r c d =
      by_bool (ltb r c)
      (λ e. rw e (lt-ltb r (c + 1) (omega (arith, ltb-true r c e))))
      (λ e. rw e (le-ltb r (c + 1) (omega (arith, ltb-false r c e))))

  -- one processor more chooses those of the next rank
  same_taken : (c i : ℕ) → (rank places 8 i ≡ c → ⊥) → taken places (c + 1) i ≡ taken places c i
  unfolding taken
  same_taken c i d = rw (ltb_next (rank places 8 i) c d)

  next_taken : (c i : ℕ) → i < 8 → c < ready_count places → rank places 8 i ≡ c → taken places (c + 1) i ≡ true
  unfolding taken
  next_taken c i h l e =
      by_bool (under places 65534 i)
      (λ b. rw (b, e, lt-ltb c (c + 1) (omega arith)) (or_right (under places 1 i) refl))
      (λ b. absurd (omega (arith, ready_below i h b)))

  pub step_taken :
      (c i : ℕ) → i < 8 → c < ready_count places
      → ◌≡◌ {A = ℕ} (pick (eqb (rank places 8 i) c) 1 (pick (taken places c i) 1 0)) (pick (taken places (c + 1) i) 1 0)
  step_taken c i h l =
      elim (ℕ_discrete (rank places 8 i) c) [
        | yes e ↦ rw (eq-eqb (rank places 8 i) c e, next_taken c i h l e)
        | no d ↦ rw (ne_eqb (rank places 8 i) c d, same_taken c i d)
      ]

  -- ---- how many are chosen with c processors

  -- task i waits though c processors are given out
  left : ℕ → ℕ → Bool
  left c i = under places 65534 i && not (taken places c i)

  module _ (c x : ℕ) (h : x < 8) (waits : left c x ≡ true) (first : (k : ℕ) → k < 8 → left c k ≡ true → full x ≤ full k) where
    x_ready : under places 65534 x ≡ true
    unfolding left
    x_ready = and_left (under places 65534 x) (not (taken places c x)) waits

    x_not : taken places c x ≡ false
    unfolding left
    x_not = not_no (taken places c x) (and_right (under places 65534 x) (not (taken places c x)) waits)

    x_fresh : (under places 1 x ≡ false) × (c ≤ rank places 8 x)
    unfolding taken
    x_fresh =
        by_bool (under places 1 x)
        (λ e. clash (let z : taken places c x ≡ true = rw (x_ready, e) in z) x_not)
        (λ e. by_bool (ltb (rank places 8 x) c)
        (λ b. clash (let z : taken places c x ≡ true = rw (x_ready, e, b) in z) x_not)
        (λ b. (e, ltb-false (rank places 8 x) c b)))

    -- what goes before the first that waits is chosen
    below_taken : (k : ℕ) → k < 8 → full k < full x → taken places c k ≡ true
    unfolding left
    below_taken k b l =
        by_bool (taken places c k) (λ e. e)
        (λ e.
        let r : under places 65534 k ≡ true = under_full 65534 k b (omega arith) ∙ lt-ltb (full k) 524272 (omega (arith, is_under x h 65534 (omega arith) x_ready)) in
        absurd (omega (arith, first k b (both r (not_yes e)))))

    -- and what is chosen goes before it
    taken_below : (k : ℕ) → k < 8 → taken places c k ≡ true → full k < full x
    unfolding taken
    taken_below k b e =
        by_bool (ltb (full k) (full x)) (λ l. ltb-true (full k) (full x) l)
        (λ l.
        let above : full x ≤ full k = ltb-false (full k) (full x) l in
        by_bool (under places 1 k)
        (λ z. absurd (omega (arith, is_under k b 1 (omega arith) z, not_under x h 1 (omega arith) x_fresh.0)))
        (λ z.
        let more : rank places 8 x ≤ rank places 8 k = omega (arith, rank_fewer x h, rank_fewer k b, count_more (full x) (full k) above) in
        let r : ltb (rank places 8 k) c ≡ true = rw z at (and_right (under places 65534 k) (under places 1 k || ltb (rank places 8 k) c) e) in
        absurd (omega (arith, ltb-true (rank places 8 k) c r, x_fresh.1))))

    same_below : (k : ℕ) → k < 8 → ltb (full k) (full x) ≡ taken places c k
    same_below k b =
        by_bool (ltb (full k) (full x))
        (λ l. l ∙ sym (below_taken k b (ltb-true (full k) (full x) l)))
        (λ l. by_bool (taken places c k) (λ e. clash (lt-ltb (full k) (full x) (taken_below k b e)) l) (λ e. l ∙ sym e))

    -- so as many go before it as are chosen
    x_rank : rank places 8 x ≡ count 8 (taken places c)
    unfolding fewer
    x_rank = rank_fewer x h ∙ count_same (λ k. ltb (full k) (full x)) (taken places c) 8 same_below

    -- no other task has its rank
    alone : c ≡ count 8 (taken places c) → (k : ℕ) → k < 8 → (k ≡ x → ⊥) → taken places c k ≡ taken places (c + 1) k
    unfolding full
    alone n k b d =
        elim (ℕ_discrete (rank places 8 k) c) [
          | no e ↦ sym (same_taken c k e)
          | yes e ↦
              by_bool (ltb (full k) (full x))
              (λ l. absurd (omega (arith, x_rank, rank_fewer x h, rank_less k b (full x) (ltb-true (full k) (full x) l))))
              (λ l.
              by_bool (ltb (full x) (full k))
              (λ m. absurd (omega (arith, x_rank, rank_fewer k b, rank_less x h (full k) (ltb-true (full x) (full k) m))))
              (λ m. absurd (d (omega (arith, ltb-false (full k) (full x) l, ltb-false (full x) (full k) m)))))
        ]

    one_more : c ≡ count 8 (taken places c) → c < ready_count places → c + 1 ≡ count 8 (taken places (c + 1))
    one_more n l =
        let e = count_one_more (taken places c) (taken places (c + 1)) x 8 h (alone n) x_not (next_taken c x h l (x_rank ∙ sym n)) in
        omega arith

  -- where c processors have c tasks and one more waits, c + 1 have c + 1
  pub number_taken : (c : ℕ) → c ≡ count 8 (taken places c) → c < ready_count places → c + 1 ≡ count 8 (taken places (c + 1))
  unfolding ready_count left
  number_taken c n l =
      ⊎_elim
      (λ none.
      absurd
      (omega (
        arith,
        count_mono (under places 65534) (taken places c) 8
            (λ k h e. by_bool (taken places c k) (λ b. b) (λ b. clash (both e (not_yes b)) (none k h))),
      )))
      (λ x. one_more c x.0 x.1.below x.1.holds x.1.least n l)
      (least_of full (left c) 8)
