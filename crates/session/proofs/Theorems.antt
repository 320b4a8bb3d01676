-- The record law (document 02, §8), and that from a fresh session no call answers 13. Assumes nothing.
use Prim.Native.Nat.{ℕ, ◌+◌, ◌-◌, ◌<◌}
use mathlib.Core.Path.{◌≡◌, refl, sym, ap, subst, ◌∙◌}
use mathlib.Core.Bool.{true, false}
use mathlib.Core.List.{List, [], ◌∷◌, ◌++◌}
use native.Mathlib.Omega.{arith}
use native.Mathlib.Decide.{ℕ_discrete}
use lib.Dec.{eqb, ltb}
use Rattle.std.specs.Prelude.{Option, Some, None, is_some, Result, Ok, Err}
use Rattle.std.specs.Option.{unwrap_or}
use borrow.Author.Tests.{ltb-true, ltb-false, le-ltb, eq-eqb, ne_eqb}
use Rattle.lists.specs.Lists.{pick}
use Rattle.tasks.specs.Table.{outside, table_fault}
use Rattle.tasks.specs.Tick.{ticked}
use Rattle.tasks.specs.Replay.{played}
use Rattle.tasks.specs.declared.state.State.{State}
use Rattle.tasks.specs.declared.table.Table.{Table}
use Rattle.tasks.specs.declared.tick.Step.{Step}
use Rattle.tasks.specs.declared.refusal.Refusal.{Refusal}
use Rattle.tasks.specs.declared.refusal.Refusal.TheVariants.{Improper}
use Rattle.tasks.specs.Refusals.{refusal_at, unless_refused}
use Rattle.session.specs.Session.{empty, fresh, mark_in, mark_at, first_of, improper_stored, improper_mark, improper_session, session_fault, beyond, never_set, set_refusal, return_refusal, step_tick, moved, after_tick, stepped, marked, settled, mark_set, returned, call_answer, called}
use Rattle.session.specs.Record.{Stored, Record, blank, stored_under, brought_back, note_done, noted, session_after, record_after, KeptAs, MarkOnRecord, OnRecord}
use Rattle.session.specs.Record.Stored.{Nothing, Listed}
use Rattle.session.specs.declared.marks.Session.{Session}
use Rattle.session.specs.declared.calls.Call.{Call}
use Rattle.lists.proofs.Bools.{by_bool, clash}
use Rattle.lists.proofs.Counts.{none_any}
use Rattle.lists.proofs.Picks.{pick_yes, pick_no}
use Rattle.lists.proofs.Fill.{eight_at}
use Rattle.tasks.proofs.Played.{tick_eleven, replayed_played}
use Rattle.tasks.proofs.Joined.{kept_proper, kept_more}
use Rattle.session.proofs.MarkLaws.{within, not_beyond}
use Rattle.tasks.proofs.Refusals.{refused_unless, accepted_unless}

-- ---- refusals

-- neither of two refusals applies
none_of : (a b : ℕ) → first_of a b ≡ 0 → (a ≡ 0) × (b ≡ 0)
none_of a b e =
    by_bool (ltb 0 a)
    (λ h. absurd (omega (arith, ltb-true 0 a h, rw h at e)))
    (λ h. (omega (arith, ltb-false 0 a h), rw h at e))

was_set : (x : Session) (k : ℕ) → never_set x k ≡ 0 → is_some (mark_at x k) ≡ true
unfolding never_set
was_set x k e = by_bool (is_some (mark_at x k)) (λ h. h) (λ h. absurd (let z = rw h at e in omega arith))

-- the refusal that a call on marks answers
refusal_told :
    (n : ℕ) (x x' : Session) {r : Refusal} (a : Result Session Refusal) → unless_refused n x' ≡ a → (settled x a).answer ≡ Err r
    → (0 < n) × (refusal_at n ≡ r)
refusal_told n x x' (Ok y) e q = absurd (let z : ◌≡◌ {A = ℕ} 0 1 = cc in omega arith)
refusal_told n x x' (Err s) e q = let f = refused_unless n x' e in (f.0, cc)

-- 15 and 16 are not 13
set_not : (k : ℕ) → 0 < beyond k → refusal_at (beyond k) ≡ Improper → ⊥
unfolding beyond refusal_at
set_not k l e = by_bool (outside k) (λ h. let q = rw h at e in let z : ◌≡◌ {A = ℕ} 0 1 = cc in omega arith) (λ h. let z = rw h at l in omega arith)

never_not : (x : Session) (k : ℕ) → 0 < never_set x k → refusal_at (never_set x k) ≡ Improper → ⊥
unfolding never_set refusal_at
never_not x k l e =
    by_bool (is_some (mark_at x k)) (λ h. let z = rw h at l in omega arith) (λ h. let q = rw h at e in let z : ◌≡◌ {A = ℕ} 0 1 = cc in omega arith)

return_not : (x : Session) (k : ℕ) → 0 < first_of (beyond k) (never_set x k) → refusal_at (first_of (beyond k) (never_set x k)) ≡ Improper → ⊥
return_not x k l e = by_bool (ltb 0 (beyond k)) (λ h. set_not k (rw h at l) (rw h at e)) (λ h. never_not x k (rw h at l) (rw h at e))

-- ---- the marks by their numbers

mark_number : (x : Session) (i : ℕ) → i < 8 → mark_at x (i + 1) ≡ mark_in x i
unfolding mark_at
mark_number x i h = rw (le-ltb (i + 1) 1 (omega arith), le-ltb 8 (i + 1) (omega arith)) (ap (mark_in x) (omega arith))

mark_within : (x : Session) (k : ℕ) → outside k ≡ false → mark_at x k ≡ mark_in x (k - 1)
unfolding mark_at
mark_within x k e = rw e

mark_outside : (x : Session) (k : ℕ) → outside k ≡ true → mark_at x k ≡ empty
unfolding mark_at
mark_outside x k e = rw e

marked_present : (x : Session) (k : ℕ) → (marked x k).present ≡ x.present
unfolding marked
marked_present x k = refl

-- a mark is where it was, or the one that was set
mark_set_lem : (x : Session) (k : ℕ) → outside k ≡ false → mark_at (marked x k) k ≡ Some x.present
unfolding marked
mark_set_lem x k e =
    let range = within k e in
    mark_within (marked x k) k e
    ∙ eight_at empty (λ i. pick (eqb (i + 1) k) (Some x.present) (mark_in x i)) (k - 1) (omega arith)
    ∙ sym (pick_yes (mark_in x (k - 1)) (eq-eqb (k - 1 + 1) k (omega arith)))

mark_stays : (x : Session) (k j : ℕ) → (j ≡ k → ⊥) → mark_at (marked x k) j ≡ mark_at x j
unfolding marked
mark_stays x k j ne =
    by_bool (outside j)
    (λ e. mark_outside (marked x k) j e ∙ sym (mark_outside x j e))
    (λ e.
    let range = within j e in
    mark_within (marked x k) j e
    ∙ eight_at empty (λ i. pick (eqb (i + 1) k) (Some x.present) (mark_in x i)) (j - 1) (omega arith)
    ∙ sym (pick_no (Some x.present) (ne_eqb (j - 1 + 1) k (λ q. ne (omega arith))) refl)
    ∙ sym (mark_within x j e))

mark_moved : (x : Session) (s : State) (k : ℕ) → mark_at (moved x s) k ≡ mark_at x k
unfolding mark_at
mark_moved x s k = refl

mark_fresh : (k : ℕ) → mark_at fresh k ≡ None
mark_fresh k =
    by_bool (outside k)
    (λ e. mark_outside fresh k e)
    (λ e.
    let range = within k e in
    mark_within fresh k e ∙ eight_at empty (λ i. empty) (k - 1) (omega arith))

module _ (t : Table) (valid : table_fault t ≡ 0) where
  -- ---- the record of a session whose calls are noted

  -- a tick that goes on is that of the present state
  next_is_tick : (x : Session) (mask : ℕ) → (step_tick t x mask).answer ≡ Ok Step.Next → step_tick t x mask ≡ ticked t x.present mask
  unfolding step_tick
  next_is_tick x mask e =
      by_bool (ltb 0 (session_fault t x))
      (λ h. absurd (let q = rw h at e in let z : ◌≡◌ {A = ℕ} 0 1 = cc in omega arith))
      (λ h. rw h)

  step_noted :
      (x : Session) (h : Record) (mask : ℕ) (s : State) (a : Result Step Refusal)
      → (a ≡ Ok Step.Next → KeptAs t (h.list ++ (mask ∷ [])) s) → OnRecord t x h → OnRecord t (after_tick x s a) (noted h (Call.Step mask) a)
  step_noted x h mask s (Ok Step.Next) f on =
      record { present = f refl; marks = λ k. subst (λ m. MarkOnRecord t m (h.stored k)) (sym (mark_moved x s k)) (on.marks k) }
  step_noted x h mask s (Ok Step.Missed) f on = on
  step_noted x h mask s (Err r) f on = on

  set_noted : (x : Session) (h : Record) (k : ℕ) → outside k ≡ false → OnRecord t x h → OnRecord t (marked x k) (stored_under h k)
  set_noted x h k e on =
      record {
        present = rw (marked_present x k) on.present;
        marks = λ j. elim (ℕ_discrete j k) [
          | yes q ↦ rw (q, mark_set_lem x k e, eq-eqb k k refl) (x.present, refl, on.present)
          | no q ↦ rw (mark_stays x k j q, ne_eqb j k q) (on.marks j)
        ];
      }

  -- the list under a mark that is set is brought back
  return_noted :
      (x : Session) (h : Record) (k : ℕ) (u : Stored) → is_some (mark_at x k) ≡ true → MarkOnRecord t (mark_at x k) u → OnRecord t x h
      → OnRecord t (moved x (unwrap_or (mark_at x k) x.present)) (brought_back h u)
  return_noted x h k Nothing set unset on = clash set (ap is_some unset)
  return_noted x h k (Listed l) set stored on =
      record {
        present = rw stored.1 stored.2;
        marks = λ j. subst (λ m. MarkOnRecord t m (h.stored j)) (sym (mark_moved x (unwrap_or (mark_at x k) x.present) j)) (on.marks j);
      }

  -- a call on marks, by whether it is refused
  settled_noted :
      (x : Session) (h : Record) (c : Call) (n : ℕ) (x' : Session) (a : Result Session Refusal) → unless_refused n x' ≡ a
      → (n ≡ 0 → OnRecord t x' (note_done h c)) → OnRecord t x h → OnRecord t (settled x a).session (noted h c (settled x a).answer)
  settled_noted x h c n x' (Ok y) e f on = let g = accepted_unless n x' e in subst (λ z. OnRecord t z (note_done h c)) (sym g.1) (f g.0)
  settled_noted x h c n x' (Err r) e f on = on

  -- LAW: one call keeps session and record together
  pub call_noted : (x : Session) (h : Record) (c : Call) → OnRecord t x h → OnRecord t (called t x c) (noted h c (call_answer t x c))
  unfolding stepped mark_set returned set_refusal return_refusal
  call_noted x h (Call.Step mask) on =
      step_noted x h mask (step_tick t x mask).state (step_tick t x mask).answer
      (λ e.
      let q = next_is_tick x mask e in
      rw q (kept_more t valid h.list x.present mask on.present (ap (λ r. r.answer) (sym q) ∙ e)))
      on
  call_noted x h (Call.SetMark k) on =
      let x' = marked x k in
      settled_noted x h (Call.SetMark k) (set_refusal t x k) x' (unless_refused (set_refusal t x k) x') refl
      (λ z. set_noted x h k (not_beyond k (none_of (session_fault t x) (beyond k) z).1) on)
      on
  call_noted x h (Call.ReturnTo k) on =
      let x' = moved x (unwrap_or (mark_at x k) x.present) in
      settled_noted x h (Call.ReturnTo k) (return_refusal t x k) x' (unless_refused (return_refusal t x k) x') refl
      (λ z.
      let free = none_of (session_fault t x) (first_of (beyond k) (never_set x k)) z in
      return_noted x h k (h.stored k) (was_set x k (none_of (beyond k) (never_set x k) free.1).1) (on.marks k) on)
      on

  calls_noted : (x : Session) (h : Record) (cs : List Call) → OnRecord t x h → OnRecord t (session_after t x cs) (record_after t x h cs)
  unfolding session_after record_after
  calls_noted x h [] on = on
  calls_noted x h (c ∷ cs) on = calls_noted (called t x c) (noted h c (call_answer t x c)) cs (call_noted x h c on)

  -- the empty list keeps the start state
  fresh_noted : OnRecord t fresh blank
  unfolding played
  fresh_noted = record { present = sym (replayed_played t [] (omega arith)); marks = mark_fresh }

  -- THEOREM: for every list of calls from a fresh session, the present state is the replay of the list on record, and each mark's state
  -- the replay of the list stored under it
  pub record_law : (cs : List Call) → OnRecord t (session_after t fresh cs) (record_after t fresh blank cs)
  record_law cs = calls_noted fresh blank cs fresh_noted

  -- ---- no call answers 13

  -- a mark on record has a proper state
  mark_proper : (mark : Option State) (u : Stored) → MarkOnRecord t mark u → improper_stored t mark ≡ false
  mark_proper mark Nothing unset = rw unset
  mark_proper mark (Listed l) stored = rw stored.1 (kept_proper t valid l stored.0 stored.2)

  marks_proper : (x : Session) (h : Record) → OnRecord t x h → (i : ℕ) → i < 8 → improper_mark t x i ≡ false
  unfolding improper_mark
  marks_proper x h on i b =
      subst (λ m. improper_stored t m ≡ false) (mark_number x i b) (mark_proper (mark_at x (i + 1)) (h.stored (i + 1)) (on.marks (i + 1)))

  -- a session on record is refused for no fault of its own
  proper_session : (x : Session) (h : Record) → OnRecord t x h → session_fault t x ≡ 0
  unfolding session_fault improper_session
  proper_session x h on =
      rw (valid, kept_proper t valid h.list x.present on.present, none_any (improper_mark t x) 8 (marks_proper x h on))

  -- such a step is its tick
  step_is_tick : (x : Session) (mask : ℕ) → session_fault t x ≡ 0 → step_tick t x mask ≡ ticked t x.present mask
  unfolding step_tick
  step_is_tick x mask e = rw e

  not_thirteen : (x : Session) (h : Record) (c : Call) → OnRecord t x h → call_answer t x c ≡ Err Improper → ⊥
  unfolding stepped mark_set returned set_refusal return_refusal
  not_thirteen x h (Call.Step mask) on e =
      let proper = kept_proper t valid h.list x.present on.present in
      let eleven = tick_eleven t valid x.present mask Improper proper (ap (λ r. r.answer) (sym (step_is_tick x mask (proper_session x h on))) ∙ e) in
      let z : ◌≡◌ {A = ℕ} 0 1 = cc in
      omega arith
  not_thirteen x h (Call.SetMark k) on e =
      let f = refusal_told (set_refusal t x k) x (marked x k) (unless_refused (set_refusal t x k) (marked x k)) refl e in
      set_not k (rw (proper_session x h on) at f.0) (rw (proper_session x h on) at f.1)
  not_thirteen x h (Call.ReturnTo k) on e =
      let x' = moved x (unwrap_or (mark_at x k) x.present) in
      let f = refusal_told (return_refusal t x k) x x' (unless_refused (return_refusal t x k) x') refl e in
      return_not x k (rw (proper_session x h on) at f.0) (rw (proper_session x h on) at f.1)

  -- THEOREM: from a fresh session no call answers 13
  pub no_thirteen : (cs : List Call) (c : Call) → call_answer t (session_after t fresh cs) c ≡ Err Improper → ⊥
  no_thirteen cs c = not_thirteen (session_after t fresh cs) (record_after t fresh blank cs) c (record_law cs)
