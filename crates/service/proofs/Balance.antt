-- The balance of a replay's totals (document 02, §5), for any table and list. Assumes nothing.
use Prim.Native.Nat.{ℕ, suc, ◌+◌, ◌*◌, ◌≤◌, ◌<◌}
use mathlib.Core.Path.{◌≡◌, refl, sym, ap, ap₂, ◌∙◌}
use mathlib.Core.Bool.{Bool, false}
use mathlib.Core.List.{List, [], ◌∷◌}
use native.Mathlib.Omega.{arith}
use native.Mathlib.Nat.{add-mul}
use lib.Dec.{ltb}
use lib.ListN.{length, get_or}
use borrow.Author.Tests.{ltb-true, ltb-false}
use Rattle.lists.specs.Lists.{eight, pick}
use Rattle.lists.proofs.Bools.{by_bool}
use Rattle.lists.proofs.Fill.{eight_at, eight_same}
use Rattle.lists.proofs.Turns.{pick_most}
use Rattle.std.specs.Prelude.{Result, Ok, Err}
use Rattle.tasks.specs.declared.refusal.Refusal.{Refusal}
use Rattle.tasks.specs.Table.{table_fault}
use Rattle.tasks.specs.State.{start, improper}
use Rattle.tasks.specs.Tick.{bit, released, runs, chosen, after, missed, illegal, refusal, ticked}
use Rattle.tasks.specs.Refusals.{refusal_at}
use Rattle.tasks.specs.Replay.{played, replayed, replay_tick}
use Rattle.tasks.specs.declared.state.State.{State}
use Rattle.tasks.specs.declared.table.Table.{Table}
use Rattle.tasks.specs.declared.tick.Step.{Step}
use Rattle.tasks.specs.declared.tick.Step.TheVariants.{Next, Missed}
use Rattle.tasks.specs.declared.play.ReplayAnswer.TheVariants as Replay
use Rattle.tasks.proofs.Choice.{runs_work}
use Rattle.tasks.proofs.After.{work_on, work_off, work_ran, work_waited}
use Rattle.tasks.proofs.Legal.{legal_bit}
use Rattle.tasks.proofs.More.{idle}
use Rattle.tasks.proofs.Answered.{ticked_refused, ticked_missed, ticked_next, refusal_passed, refusal_fault}
use Rattle.tasks.proofs.Played.{replayed_refused, replayed_played, replay_names}
use Rattle.service.specs.declared.totals.Account.{Account}
use Rattle.service.specs.Totals.{count_next, count_ticks, releases, runs_in, release_count, ticks_run, account_from, account_of, Balanced}

-- ---- a tick

module _ (t : Table) (i : ℕ) (h : i < 8) (s : State) (mask : ℕ) where
  -- a release adds C to the work left, since a task that may be released has none
  released_balance :
      table_fault t ≡ 0 → improper t s ≡ false → illegal t s mask ≡ false
      → pick (bit mask i) 1 0 * get_or t.work i 0 + get_or s.c i 0 ≡ get_or (released t s mask).c i 0
  released_balance valid proper legal =
      by_bool (bit mask i)
      (λ e.
      let none = idle t s valid proper i h (legal_bit t s mask i h legal e).1 in
      rw e (omega (arith, none, work_on t s mask i h e)))
      (λ e. rw e (omega (arith, work_off t s mask i h e)))

  runs_in_lem : runs_in t i s mask ≡ runs t (released t s mask) i
  unfolding chosen
  runs_in_lem = eight_at false (runs t (released t s mask)) i h

  -- a task that runs was ready, and loses 1
  run_balance : get_or (released t s mask).c i 0 ≡ pick (runs_in t i s mask) 1 0 + get_or (after t s mask).c i 0
  run_balance =
      let r = released t s mask in
      rw runs_in_lem
      (by_bool (runs t r i)
      (λ e. rw e (omega (arith, runs_work t r i e, work_ran t s mask i h e)))
      (λ e. rw e (omega (arith, work_waited t s mask i h e))))

  tick_balance :
      refusal t s mask ≤ 0
      → pick (bit mask i) 1 0 * get_or t.work i 0 + get_or s.c i 0 ≡ pick (runs_in t i s mask) 1 0 + get_or (after t s mask).c i 0
  tick_balance none =
      let ok = refusal_passed t s mask none in
      released_balance ok.0 ok.1 ok.2 ∙ run_balance

-- a tick's balance and that of what comes after it
joined : (x y r q C c d left : ℕ) → x * C + c ≡ y + d → r * C + d ≡ q + left → (x + r) * C + c ≡ y + q + left
joined x y r q C c d left a b = omega (arith, add-mul x r C, a, b)

next_most : {one rest n : ℕ} (a : Result Step Refusal) → one ≤ 1 → rest ≤ n → count_next one rest a ≤ suc n
next_most (Ok Next) h g = omega arith
next_most (Ok Missed) h g = omega arith
next_most (Err r) h g = omega arith

-- ---- a list

module _ (t : Table) (i : ℕ) (h : i < 8) where
  -- LAW: from any state, whatever the answer, releases × C and the work at first are the ticks run and the work left
  pub played_balance :
      (s : State) (k : ℕ) (masks : List ℕ)
      → count_ticks t (releases i) s masks * get_or t.work i 0 + get_or s.c i 0
      ≡ count_ticks t (runs_in t i) s masks + get_or (played t s k masks).state.c i 0
  unfolding count_ticks played
  played_balance s k [] = omega arith
  played_balance s k (mask ∷ masks) =
      by_bool (ltb 0 (refusal t s mask))
      (λ e. rw (sym (ticked_refused t s mask (ltb-true 0 (refusal t s mask) e))) (omega arith))
      (λ e.
      let none = ltb-false 0 (refusal t s mask) e in
      let now = tick_balance t i h s mask none in
      by_bool (missed t (after t s mask))
      (λ m. rw (sym (ticked_missed t s mask none m)) now)
      (λ m.
      rw (sym (ticked_next t s mask none m))
      (joined _ _ _ _ (get_or t.work i 0) _ (get_or (after t s mask).c i 0) _ now (played_balance (after t s mask) (k + 1) masks))))

-- LAW: no count exceeds the number of masks
pub count_most : (t : Table) (test : State → ℕ → Bool) (s : State) (masks : List ℕ) → count_ticks t test s masks ≤ length masks
unfolding count_ticks
count_most t test s [] = omega arith
count_most t test s (mask ∷ masks) =
    next_most (ticked t s mask).answer (pick_most (test s mask) 1) (count_most t test (ticked t s mask).state masks)

-- ---- a bad table

-- every tick is refused, so none is counted
none_counted : (t : Table) (test : State → ℕ → Bool) (s : State) (masks : List ℕ) → 0 < table_fault t → count_ticks t test s masks ≡ 0
unfolding count_ticks
none_counted t test s [] bad = refl
none_counted t test s (mask ∷ masks) bad = rw (sym (ticked_refused t s mask (refusal_fault t s mask bad)))

-- LAW: refusals 4 to 7 have totals that are all 0
pub no_totals :
    (t : Table) (masks : List ℕ) → 0 < table_fault t
    → account_from (record { answer = Replay.Refused (refusal_at (table_fault t)) 0; state = start }) (eight (λ i. 0)) (eight (λ i. 0)) ≡ account_of t masks
unfolding account_of release_count ticks_run
no_totals t masks bad =
    ap (λ r. account_from r (eight (λ i. 0)) (eight (λ i. 0))) (replayed_refused t masks bad)
    ∙ ap₂ (account_from (replayed t masks))
    (eight_same (λ i. 0) (release_count t masks) (λ i h. sym (none_counted t (releases i) start masks bad)))
    (eight_same (λ i. 0) (ticks_run t masks) (λ i h. sym (none_counted t (runs_in t i) start masks bad)))

-- ---- the replay

first : (t : Table) (masks : List ℕ) → 0 < table_fault t → start ≡ (played t start 0 masks).state
unfolding played
first t [] bad = refl
first t (mask ∷ masks) bad = rw (sym (ticked_refused t start mask (refusal_fault t start mask bad)))

-- the state of a replay is that of the play from the start, also where the table is refused
replayed_state : (t : Table) (masks : List ℕ) → (replayed t masks).state ≡ (played t start 0 masks).state
replayed_state t masks =
    by_bool (ltb 0 (table_fault t))
    (λ e.
    let bad = ltb-true 0 (table_fault t) e in
    ap (λ r. r.state) (sym (replayed_refused t masks bad)) ∙ first t masks bad)
    (λ e. ap (λ r. r.state) (sym (replayed_played t masks (ltb-false 0 (table_fault t) e))))

-- THEOREM: whatever table and list, and whatever the answer, the totals balance
pub balance : (t : Table) (masks : List ℕ) → Balanced t (account_of t masks).totals
unfolding account_of release_count ticks_run
balance t masks =
    record {
      each = λ i h.
          rw (eight_at 0 (release_count t masks) i h, eight_at 0 (ticks_run t masks) i h, replayed_state t masks)
          (omega (arith, played_balance t i h start 0 masks, eight_at {A = ℕ} 0 (λ j. 0) i h));
    }

-- LAW: an account's totals balance, and the tick that it names is at most the list's last
pub account_told :
    (t : Table) (masks : List ℕ) {r : Account} → r ≡ account_of t masks
    → (r ≡ account_of t masks) × Balanced t r.totals × (replay_tick r.replayed.answer ≤ length masks)
unfolding account_of
account_told t masks e =
    (e, rw e (balance t masks), (replay_names t masks (ap (λ (x : Account). x.replayed) e)).1)
