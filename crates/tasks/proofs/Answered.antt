-- The answer of a tick, case by case. Assumes nothing.
use Prim.Native.Nat.{ℕ, ◌≤◌, ◌<◌}
use mathlib.Core.Path.{◌≡◌, refl, sym, ap, ◌∙◌}
use mathlib.Core.Bool.{Bool, true, false}
use mathlib.Core.List.{List}
use native.Mathlib.Omega.{arith}
use lib.Dec.{ltb}
use borrow.Author.Tests.{ltb-true, ltb-false, lt-ltb, le-ltb}
use Rattle.lists.specs.Lists.{pick}
use Rattle.std.specs.Prelude.{Ok, Err}
use Rattle.tasks.specs.Table.{table_fault}
use Rattle.tasks.specs.State.{improper}
use Rattle.tasks.specs.Tick.{illegal, released, chosen, ran, after, missed, refusal, answered, ticked}
use Rattle.tasks.specs.declared.state.State.{State}
use Rattle.tasks.specs.declared.table.Table.{Table}
use Rattle.tasks.specs.declared.tick.Step.TheVariants.{Next, Missed}
use Rattle.tasks.specs.declared.refusal.Refusal.TheVariants.{Mask}
use Rattle.tasks.specs.Refusals.{refusal_number, refusal_at}
use Rattle.lists.proofs.Bools.{by_bool}
use Rattle.lists.proofs.Picks.{pick_yes, pick_no}
use Rattle.tasks.proofs.Tables.{pick_zero, fault_number}
use Rattle.tasks.proofs.Refusals.{pick_case, Named}
use Rattle.tasks.proofs.Proper.{proper_after}

-- a tick that neither refuses nor misses: what it is given, and what it leaves
pub record Passed (t : Table) (s : State) (mask : ℕ) : Type 0 where
  pub valid : table_fault t ≡ 0
  pub proper : improper t s ≡ false
  pub legal : illegal t s mask ≡ false
  pub calm : missed t (after t s mask) ≡ false
  pub state : (ticked t s mask).state ≡ after t s mask

thirteen : 13 ≡ refusal_number (refusal_at 13)
unfolding refusal_at
thirteen = refl

eleven : 11 ≡ refusal_number (refusal_at 11)
unfolding refusal_at
eleven = refl

module _ (t : Table) (s : State) (mask : ℕ) where
  -- a tick's refusal is one of the list
  pub refusal_listed : 0 < refusal t s mask → refusal t s mask ≡ refusal_number (refusal_at (refusal t s mask))
  unfolding refusal
  refusal_listed =
      pick_case Named (ltb 0 (table_fault t)) (fault_number t)
      (pick_case Named (improper t s) {x = 13} (λ h. thirteen)
      (pick_case Named (illegal t s mask) {x = 11} {y = 0} (λ h. eleven) (λ h. absurd (omega arith))))

  -- a tick is refused with the state given
  pub ticked_refused : 0 < refusal t s mask → answered (Err (refusal_at (refusal t s mask))) s ≡ ticked t s mask
  unfolding ticked
  ticked_refused h = pick_yes _ (lt-ltb _ _ h)

  pub ticked_missed :
      refusal t s mask ≤ 0 → missed t (after t s mask) ≡ true → answered (Ok Missed) (after t s mask) ≡ ticked t s mask
  unfolding ticked
  ticked_missed h e = pick_no _ (le-ltb _ _ h) (pick_yes _ e)

  pub ticked_next :
      refusal t s mask ≤ 0 → missed t (after t s mask) ≡ false → answered (Ok Next) (after t s mask) ≡ ticked t s mask
  unfolding ticked
  ticked_next h e = pick_no _ (le-ltb _ _ h) (pick_no _ e refl)

  -- a tick is not refused exactly with a valid table, a proper state and a legal mask
  pub refusal_none : table_fault t ≡ 0 → improper t s ≡ false → illegal t s mask ≡ false → refusal t s mask ≡ 0
  unfolding refusal
  refusal_none valid proper legal = rw (valid, proper, legal)

  -- a bad table refuses every tick
  pub refusal_table : 0 < table_fault t → refusal t s mask ≡ table_fault t
  unfolding refusal
  refusal_table bad = rw (lt-ltb 0 (table_fault t) bad)

  pub refusal_fault : 0 < table_fault t → 0 < refusal t s mask
  refusal_fault bad = omega (arith, refusal_table bad)

  -- so does a state that is not proper
  pub refusal_state : table_fault t ≡ 0 → improper t s ≡ true → refusal t s mask ≡ 13
  unfolding refusal
  refusal_state valid bad = rw (valid, bad)

  pub refusal_passed : refusal t s mask ≤ 0 → (table_fault t ≡ 0) × (improper t s ≡ false) × (illegal t s mask ≡ false)
  unfolding refusal
  refusal_passed h =
      let state : ℕ = pick (improper t s) 13 (pick (illegal t s mask) 11 0) in
      by_bool (ltb 0 (table_fault t))
      (λ e. absurd (omega (arith, ltb-true 0 (table_fault t) e, rw e at h)))
      (λ e.
      let z : state ≤ 0 = rw e at h in
      let a = pick_zero (improper t s) 13 (pick (illegal t s mask) 11 0) (omega arith) (omega arith) in
      let b = pick_zero (illegal t s mask) 11 0 (omega arith) a.1 in
      (omega (arith, ltb-false 0 (table_fault t) e), a.0, b.0))

  -- LAW: with a valid table, a proper state and a legal mask, a tick is the state after step 4, missed or not
  pub ticked_legal :
      table_fault t ≡ 0 → improper t s ≡ false → illegal t s mask ≡ false
      → ticked t s mask ≡ answered (Ok (pick (missed t (after t s mask)) Missed Next)) (after t s mask)
  ticked_legal valid proper legal =
      let none : refusal t s mask ≤ 0 = omega (arith, refusal_none valid proper legal) in
      by_bool (missed t (after t s mask))
      (λ e. rw e (sym (ticked_missed none e)))
      (λ e. rw e (sym (ticked_next none e)))

  module _ {r next : State} {run : List Bool} (r-is : r ≡ released t s mask) (run_is : run ≡ chosen t r) (next-is : next ≡ ran r run) where
    steps_after : next ≡ after t s mask
    unfolding after
    steps_after = cc

    -- LAW: .. and so, by its steps
    pub ticked_steps :
        table_fault t ≡ 0 → improper t s ≡ false → illegal t s mask ≡ false → ticked t s mask ≡ answered (Ok (pick (missed t next) Missed Next)) next
    ticked_steps valid proper legal = rw steps_after (ticked_legal valid proper legal)

  pub refused_mask : table_fault t ≡ 0 → improper t s ≡ false → illegal t s mask ≡ true → refusal t s mask ≡ 11
  unfolding refusal
  refused_mask valid proper bad = rw (valid, proper, bad)

  -- LAW: with a valid table and a proper state, a mask that is not legal is refused with 11 and the state given
  pub ticked_illegal :
      table_fault t ≡ 0 → improper t s ≡ false → illegal t s mask ≡ true → ticked t s mask ≡ answered (Err Mask) s
  unfolding refusal_at
  ticked_illegal valid proper bad =
      let e : refusal t s mask ≡ 11 = refused_mask valid proper bad in
      sym (ticked_refused (omega arith)) ∙ ap (λ r. answered (Err (refusal_at r)) s) e

  -- a tick that neither refuses nor misses was given a valid table, a proper state and a legal mask, and leaves the state after step 4
  pub next_passed : (ticked t s mask).answer ≡ Ok Next → Passed t s mask
  next_passed e =
      by_bool (ltb 0 (refusal t s mask))
      (λ h.
      let r = ticked_refused (ltb-true 0 (refusal t s mask) h) in
      absurd (let z : ◌≡◌ {A = ℕ} 0 1 = cc (ap (λ x. x.answer) r) in omega arith))
      (λ h.
      let none = ltb-false 0 (refusal t s mask) h in
      let ok = refusal_passed none in
      by_bool (missed t (after t s mask))
      (λ m. absurd (let z : ◌≡◌ {A = ℕ} 0 1 = cc (ap (λ x. x.answer) (ticked_missed none m)) in omega arith))
      (λ m. record { valid = ok.0; proper = ok.1; legal = ok.2; calm = m; state = ap (λ x. x.state) (sym (ticked_next none m)) }))

  -- LAW: a tick that neither refuses nor misses leaves a proper state
  pub ticked_proper : (ticked t s mask).answer ≡ Ok Next → improper t (ticked t s mask).state ≡ false
  ticked_proper e = let f = next_passed e in rw f.state (proper_after t s mask f.proper f.legal f.calm)
