-- From a proper state a tick of a table and a state made ready is the tick of the model. Assumes nothing.
use Prim.Native.Nat.{ℕ, zero, suc, ◌+◌, ◌-◌, ◌*◌, ◌/◌, ◌%◌, ◌^◌, ◌<◌}
use mathlib.Core.Path.{◌≡◌, refl, sym, ap, ap₂, ◌∙◌}
use mathlib.Core.List.{List}
use mathlib.Core.Bool.{Bool, true, false, not, ◌&&◌, ◌||◌}
use native.Mathlib.Omega.{arith}
use native.Mathlib.Decide.{ℕ_discrete}
use lib.Bits.{bit_and}
use lib.Dec.{eqb, ltb}
use lib.ListN.{get_or}
use lib.Signed.{lt_z}
use borrow.Author.Tests.{eq-eqb, ne_eqb, ltb-true, ltb-false, lt-ltb, le-ltb}
use Rattle.lists.specs.Lists.{eight, pick}
use Rattle.jobs.specs.Job.{lex}
use Rattle.jobs.specs.Place.{gap_mask, work_mask}
use Rattle.jobs.proofs.Places.{InTime, job_place, place_less, place_range}
use Rattle.cores.specs.Walk.{sooner, taken}
use Rattle.cores.proofs.RankLaws.{sooner_some}
use Rattle.tasks.specs.Table.{table_fault}
use Rattle.tasks.specs.State.{start, not_preempted, ready, started, keeps, improper}
use Rattle.tasks.specs.Tick.{bit, released, key, age, before, runs, chosen, ran_at, fallen, ran, after}
use Rattle.tasks.specs.Words.{words_of, state_of}
use Rattle.tasks.specs.Ticker.{place_in, places_in, kept_at, base_at, ticker_of, old_word, prepared_by, selected, lowered, ticked_by}
use Rattle.tasks.specs.declared.state.State.{State}
use Rattle.tasks.specs.declared.table.Table.{Table}
use Rattle.lists.proofs.Bools.{by_bool}
use Rattle.lists.proofs.Fill.{eight_at, eight_same}
use Rattle.tasks.proofs.Tables.{ordered}
use Rattle.tasks.proofs.Choice.{runs_work}
use Rattle.tasks.proofs.Late.{not_late}
use Rattle.tasks.proofs.Proper.{proper_task}
use Rattle.tasks.proofs.Place.{Waits, Placed, taken_runs}
use Rattle.tasks.proofs.Bits.{mask_test}
use Rattle.tasks.proofs.InWords.{StateBytes, WordList, state_same, words_at, words_fit, words_state, work_word, gap_word}
use Rattle.tasks.proofs.After.{work_on, work_off, gap_on, gap_off}

-- ---- a mask's bits

-- every bit of 255 is set
full : (i : ℕ) → i < 8 → bit 255 i ≡ true
full zero h = refl
full (suc zero) h = refl
full (suc (suc zero)) h = refl
full (suc (suc (suc zero))) h = refl
full (suc (suc (suc (suc zero)))) h = refl
full (suc (suc (suc (suc (suc zero))))) h = refl
full (suc (suc (suc (suc (suc (suc zero)))))) h = refl
full (suc (suc (suc (suc (suc (suc (suc zero))))))) h = refl
full (suc (suc (suc (suc (suc (suc (suc (suc i)))))))) h = absurd (omega arith)

-- ---- the places

-- the place of task i by its two numbers
job_at : Table → State → ℕ → ℕ
job_at t s i = job_place t.policy (get_or t.deadline i 0) (get_or t.gap i 0) (get_or s.p i 0) (get_or s.c i 0)

place_at : Table → State → ℕ → ℕ
place_at t s i = pick (ready s i) (pick (keeps t s i) 0 (job_at t s i)) 65535

-- it is made of the two numbers, and of no other
place_same : (t : Table) (s u : State) (i : ℕ) → get_or s.c i 0 ≡ get_or u.c i 0 → get_or s.p i 0 ≡ get_or u.p i 0 → place_at t s i ≡ place_at t u i
unfolding place_at job_at keeps started
place_same t s u i e h = rw (e, h)

stays_test : (stays : Bool) (c work : ℕ) → ltb c (pick stays work 0) ≡ stays && ltb c work
stays_test true c work = refl
stays_test false c work = le-ltb c 0 (omega arith)

place_word :
    (t : Table) (s : State) (i w : ℕ) → get_or s.c i 0 ≡ w % 256 → get_or s.p i 0 ≡ w / 256
    → place_in (gap_mask t.policy) (work_mask t.policy) (kept_at t i) (base_at t i) w ≡ place_at t s i
unfolding place_in place_at job_at kept_at base_at keeps started
place_word t s i w e k =
    rw (e, k)
    (by_bool (ltb 0 (w % 256))
    (λ r.
    rw r
    (ap
    (λ y. pick y 0 (job_place t.policy (get_or t.deadline i 0) (get_or t.gap i 0) (w / 256) (w % 256)))
    (stays_test (not_preempted t) (w % 256) (get_or t.work i 0))))
    (λ r. rw r))

-- the places of eight words, by the table made ready
places_word :
    (t : Table) (v : List ℕ) (i : ℕ) → i < 8
    → get_or (places_in (eight (λ i. gap_mask t.policy)) (eight (λ i. work_mask t.policy)) (eight (kept_at t)) (eight (base_at t)) v) i 0
    ≡ place_in (gap_mask t.policy) (work_mask t.policy) (kept_at t i) (base_at t i) (get_or v i 0)
unfolding places_in
places_word t v i h =
    eight_at 0 (λ i. place_in (get_or (eight (λ i. gap_mask t.policy)) i 0) (get_or (eight (λ i. work_mask t.policy)) i 0) (get_or (eight (kept_at t)) i 0) (get_or (eight (base_at t)) i 0) (get_or v i 0)) i h
    ∙ ap₂ (λ x y. place_in x y (get_or (eight (kept_at t)) i 0) (get_or (eight (base_at t)) i 0) (get_or v i 0))
    (eight_at 0 (λ i. gap_mask t.policy) i h)
    (eight_at 0 (λ i. work_mask t.policy) i h)
    ∙ ap₂ (λ x y. place_in (gap_mask t.policy) (work_mask t.policy) x y (get_or v i 0))
    (eight_at 0 (kept_at t) i h)
    (eight_at 0 (base_at t) i h)

-- ---- the places of a state after a release, from a proper one

-- a test by two numbers, the second where the first are equal, and by the task numbers where both are
three : (a b x y n : Bool) → (a || (not b && x)) || (not (b || (not a && y)) && n) ≡ (a || (not b && (x || (not y && n))))
three true b x y n = refl
three false true x y n = refl
three false false x y n = refl

-- a place goes before another where it is smaller, or is not greater and its task's number is smaller
sooner_less : (y k x i : ℕ) → y < 65534 → x < 65534 → sooner y k x i ≡ (ltb y x || (not (ltb x y) && ltb k i))
sooner_less y k x i h l =
    sooner_some y k x i h l
    ∙ by_bool (ltb y x) (λ e. rw e)
    (λ e.
    elim (ℕ_discrete y x) [
      | yes q ↦ rw (e, eq-eqb y x q, le-ltb x y (omega arith))
      | no d ↦ rw (e, ne_eqb y x d, lt-ltb x y (omega (arith, ltb-false y x e)))
    ])

module _ (t : Table) (s : State) (mask : ℕ) (valid : table_fault t ≡ 0) (proper : improper t s ≡ false) where
  -- a job after the release is in time
  in_time : (i : ℕ) → i < 8 → ready (released t s mask) i ≡ true → InTime (get_or t.deadline i 0) (get_or t.gap i 0) (get_or (released t s mask).p i 0) (get_or (released t s mask).c i 0)
  in_time i h r =
      let o = ordered t valid i h in
      by_bool (bit mask i)
      (λ e.
      let c = work_on t s mask i h e in
      let p = gap_on t s mask i h e in
      record { least = o.least; deadline = o.deadline; gap = omega arith; kept = omega (arith, o.work) })
      (λ e.
      let c = work_off t s mask i h e in
      let p = gap_off t s mask i h e in
      let f = proper_task t s proper i h in
      let job = ltb-true 0 (get_or (released t s mask).c i 0) r in
      record { least = o.least; deadline = o.deadline; gap = omega (arith, f.gap); kept = omega (arith, not_late t s i f.kept (omega arith)) })

  abbrev after_release : State
  after_release = released t s mask

  place_free : (i : ℕ) → Waits t after_release i → place_at t after_release i ≡ job_at t after_release i
  unfolding place_at
  place_free i w = rw (w.has, w.free)

  job_less :
      (j i : ℕ) → Waits t after_release j → Waits t after_release i
      → ltb (job_at t after_release j) (job_at t after_release i)
      ≡ lex (key t after_release j) (key t after_release i) (lt_z (age t after_release i) (age t after_release j))
  unfolding job_at key age
  job_less j i w x =
      place_less t.policy (get_or t.deadline j 0) (get_or t.gap j 0) (get_or after_release.p j 0) (get_or after_release.c j 0)
      (get_or t.deadline i 0) (get_or t.gap i 0) (get_or after_release.p i 0) (get_or after_release.c i 0)
      (in_time j w.small w.has) (in_time i x.small x.has)

  job_range : (i : ℕ) → Waits t after_release i → (0 < job_at t after_release i) × (job_at t after_release i < 65534)
  unfolding job_at
  job_range i w =
      place_range t.policy (get_or t.deadline i 0) (get_or t.gap i 0) (get_or after_release.p i 0) (get_or after_release.c i 0) (in_time i w.small w.has)

  job_before :
      (j i : ℕ) → Waits t after_release j → Waits t after_release i
      → sooner (job_at t after_release j) j (job_at t after_release i) i ≡ before t after_release j i
  unfolding before
  job_before j i w x =
      sooner_less (job_at t after_release j) j (job_at t after_release i) i (job_range j w).1 (job_range i x).1
      ∙ rw (job_less j i w x, job_less i j x w)
      (three
      (lt_z (key t after_release j) (key t after_release i)) (lt_z (key t after_release i) (key t after_release j))
      (lt_z (age t after_release i) (age t after_release j)) (lt_z (age t after_release j) (age t after_release i)) (ltb j i))

  -- these places stand in the order of the jobs
  numbers_placed : {places : List ℕ} → ((i : ℕ) → i < 8 → get_or places i 0 ≡ place_at t after_release i) → Placed t after_release places
  unfolding place_at
  numbers_placed at =
      record {
        none = λ i h r. at i h ∙ rw r;
        kept = λ i h r e. at i h ∙ rw (r, e);
        some = λ i w. rw (at i w.small ∙ place_free i w) (job_range i w);
        order = λ j i w x. rw (at j w.small ∙ place_free j w, at i x.small ∙ place_free i x) (job_before j i w x);
      }

-- ---- what a mask selects

module _ (mask : ℕ) (old new : List ℕ) (i : ℕ) (h : i < 8) where
  bit_tested : eqb (bit_and mask (get_or (eight (λ i. 2 ^ i)) i 0)) 0 ≡ not (bit mask i)
  bit_tested = ap (λ x. eqb (bit_and mask x) 0) (eight_at 0 (λ i. 2 ^ i) i h) ∙ mask_test mask i

  selected_new : bit mask i ≡ true → selected (eight (λ i. 2 ^ i)) mask old new i ≡ get_or new i 0
  unfolding selected
  selected_new e = ap (λ b. pick b (get_or old i 0) (get_or new i 0)) (bit_tested ∙ ap not e)

  selected_old : bit mask i ≡ false → selected (eight (λ i. 2 ^ i)) mask old new i ≡ get_or old i 0
  unfolding selected
  selected_old e = ap (λ b. pick b (get_or old i 0) (get_or new i 0)) (bit_tested ∙ ap not e)

-- ---- a tick

-- a word after a run, or with none
word_low : (r : Bool) (c p : ℕ) → c < 256 → (r ≡ true → 0 < c) → (c + 256 * p - pick r 1 0) % 256 ≡ pick r (c - 1) c
word_low true c p h k = let f = k refl in omega arith
word_low false c p h k = omega arith

word_high : (r : Bool) (c p : ℕ) → c < 256 → (r ≡ true → 0 < c) → (c + 256 * p - pick r 1 0) / 256 ≡ p
word_high true c p h k = let f = k refl in omega arith
word_high false c p h k = omega arith

-- a run of no task
idle_work : (s : State) (i : ℕ) → i < 8 → get_or (ran s (eight (λ i. false))).c i 0 ≡ get_or s.c i 0
unfolding ran ran_at
idle_work s i h =
    eight_at 0 (ran_at s.c (eight (λ i. false))) i h
    ∙ ap (λ b. pick b (get_or s.c i 0 - 1) (get_or s.c i 0)) (eight_at false (λ i. false) i h)

idle_gap : (s : State) (i : ℕ) → i < 8 → get_or (ran s (eight (λ i. false))).p i 0 ≡ get_or s.p i 0 - 1
unfolding ran fallen
idle_gap s i h = eight_at 0 (fallen s.p) i h

-- the word of a task that has just been released, but for the run
word_new : (t : Table) (i : ℕ) → i < 8 → get_or (words_of (ran (released t start 255) (eight (λ i. false)))) i 0 ≡ get_or t.work i 0 + 256 * (get_or t.gap i 0 - 1)
word_new t i h =
    words_at (ran (released t start 255) (eight (λ i. false))) i h
    ∙ ap₂ (λ c p. c + 256 * p)
    (idle_work (released t start 255) i h ∙ work_on t start 255 i h (full i h))
    (idle_gap (released t start 255) i h ∙ ap (λ p. p - 1) (gap_on t start 255 i h (full i h)))

-- the place of task i in a state's words
state_place :
    (t : Table) (s : State) (i : ℕ) → i < 8 → get_or s.c i 0 < 256
    → get_or (places_in (eight (λ i. gap_mask t.policy)) (eight (λ i. work_mask t.policy)) (eight (kept_at t)) (eight (base_at t)) (words_of s)) i 0 ≡ place_at t s i
state_place t s i h small =
    places_word t (words_of s) i h
    ∙ place_word t s i (get_or (words_of s) i 0)
    (rw (words_at s i h) (omega arith))
    (rw (words_at s i h) (omega arith))

module _ (t : Table) (v : List ℕ) (mask : ℕ) (valid : table_fault t ≡ 0) (proper : improper t (state_of v) ≡ false) (words : WordList v) where
  -- the state after the release
  abbrev u : State
  u = released t (state_of v) mask

  work_old : (i : ℕ) → i < 8 → bit mask i ≡ false → get_or u.c i 0 ≡ get_or v i 0 % 256
  work_old i h e = work_off t (state_of v) mask i h e ∙ work_word v i h

  gap_old : (i : ℕ) → i < 8 → bit mask i ≡ false → get_or u.p i 0 ≡ get_or v i 0 / 256
  gap_old i h e = gap_off t (state_of v) mask i h e ∙ gap_word v i h

  work_small : (i : ℕ) → i < 8 → get_or u.c i 0 < 256
  work_small i h =
      by_bool (bit mask i)
      (λ e. omega (arith, work_on t (state_of v) mask i h e, ordered t valid i h))
      (λ e. omega (arith, work_old i h e))

  -- the place and the word selected for a task
  abbrev places : ℕ → ℕ
  places = selected (ticker_of t).bits mask (prepared_by (ticker_of t) v).place (ticker_of t).newplace

  abbrev lasting : ℕ → ℕ
  lasting = selected (ticker_of t).bits mask (prepared_by (ticker_of t) v).word (ticker_of t).newword

  -- the place is that of the state after the release
  place_at_lem : (i : ℕ) → i < 8 → places i ≡ place_at t u i
  unfolding ticker_of prepared_by
  place_at_lem i h =
      by_bool (bit mask i)
      (λ e.
      selected_new mask (prepared_by (ticker_of t) v).place (ticker_of t).newplace i h e
      ∙ state_place t (released t start 255) i h (omega (arith, work_on t start 255 i h (full i h), ordered t valid i h))
      ∙ place_same t (released t start 255) u i
      (work_on t start 255 i h (full i h) ∙ sym (work_on t (state_of v) mask i h e))
      (gap_on t start 255 i h (full i h) ∙ sym (gap_on t (state_of v) mask i h e)))
      (λ e.
      selected_old mask (prepared_by (ticker_of t) v).place (ticker_of t).newplace i h e
      ∙ places_word t v i h
      ∙ place_word t u i (get_or v i 0) (work_old i h e) (gap_old i h e))

  -- the word is that of its two numbers, but for the run
  word_at : (i : ℕ) → i < 8 → lasting i ≡ get_or u.c i 0 + 256 * (get_or u.p i 0 - 1)
  unfolding ticker_of prepared_by old_word
  word_at i h =
      by_bool (bit mask i)
      (λ e.
      selected_new mask (prepared_by (ticker_of t) v).word (ticker_of t).newword i h e
      ∙ word_new t i h
      ∙ rw (work_on t (state_of v) mask i h e, gap_on t (state_of v) mask i h e))
      (λ e.
      selected_old mask (prepared_by (ticker_of t) v).word (ticker_of t).newword i h e
      ∙ eight_at 0 (λ i. old_word (get_or v i 0)) i h
      ∙ rw (work_old i h e, gap_old i h e))

  -- LAW: the walk goes through places in the order of the jobs of the state after the release
  pub places_at : Placed t u (eight places)
  places_at = numbers_placed t (state_of v) mask valid proper (λ i h. eight_at 0 places i h ∙ place_at_lem i h)

  -- the tasks taken are those that run
  taken_at : (i : ℕ) → i < 8 → taken (eight places) t.m i ≡ runs t u i
  taken_at = taken_runs t u (eight places) places_at

  ticked_at :
      (i : ℕ) → i < 8
      → get_or (ticked_by (ticker_of t) (prepared_by (ticker_of t) v) mask) i 0
      ≡ get_or u.c i 0 + 256 * (get_or u.p i 0 - 1) - pick (runs t u i) 1 0
  unfolding ticked_by lowered ticker_of
  ticked_at i h =
      eight_at 0 (λ i. get_or (eight lasting) i 0 - pick (taken (eight places) t.m i) 1 0) i h
      ∙ ap₂ (λ w r. w - pick r 1 0)
      (eight_at 0 lasting i h ∙ word_at i h)
      (taken_at i h)

  -- LAW: the state of the words after a tick is the state after the tick of the words' state
  pub ticker_after : state_of (ticked_by (ticker_of t) (prepared_by (ticker_of t) v) mask) ≡ after t (state_of v) mask
  unfolding state_of after ran ran_at fallen chosen
  ticker_after =
      state_same
      (eight_same (λ i. get_or (ticked_by (ticker_of t) (prepared_by (ticker_of t) v) mask) i 0 % 256) (ran_at u.c (chosen t u)) (λ i h.
      ap (λ w. w % 256) (ticked_at i h)
      ∙ word_low (runs t u i) (get_or u.c i 0) (get_or u.p i 0 - 1) (work_small i h) (runs_work t u i)
      ∙ ap (λ r. pick r (get_or u.c i 0 - 1) (get_or u.c i 0)) (sym (eight_at false (runs t u) i h))))
      (eight_same (λ i. get_or (ticked_by (ticker_of t) (prepared_by (ticker_of t) v) mask) i 0 / 256) (fallen u.p) (λ i h.
      ap (λ w. w / 256) (ticked_at i h)
      ∙ word_high (runs t u i) (get_or u.c i 0) (get_or u.p i 0 - 1) (work_small i h) (runs_work t u i)))

-- LAW: a tick of a proper state by its words
pub ticker_state :
    (t : Table) (s : State) (mask : ℕ) → table_fault t ≡ 0 → improper t s ≡ false → StateBytes s
    → state_of (ticked_by (ticker_of t) (prepared_by (ticker_of t) (words_of s)) mask) ≡ after t s mask
ticker_state t s mask valid proper k =
    ticker_after t (words_of s) mask valid (rw (words_state s k) proper) (words_fit s k) ∙ ap (λ x. after t x mask) (words_state s k)
