-- A session that is written is read back, and so the record law holds of sessions in bytes. Assumes nothing.
use Prim.Native.Nat.{ℕ, zero, suc, ◌+◌, ◌*◌, ◌≤◌, ◌<◌}
use mathlib.Core.Path.{◌≡◌, refl, sym, ap, ap₂, subst, ◌∙◌}
use mathlib.Core.Logic.{◌⊎◌}
use mathlib.Core.Logic.◌⊎◌.{inl}
use mathlib.Core.Bool.{false}
use mathlib.Core.List.{List, [], ◌∷◌}
use native.Mathlib.Omega.{arith}
use native.Mathlib.Decide.{ℕ_discrete}
use lib.ListN.{length, get_or}
use lib.Seq.{sets, length-sets}
use Rattle.std.specs.Prelude.{Option, Some, None, is_some, Result, Ok, Err}
use Rattle.lists.specs.Lists.{bits_of}
use Rattle.tasks.specs.Table.{table_fault}
use Rattle.tasks.specs.Tick.{bit}
use Rattle.tasks.specs.Sheet.{sheet_of}
use Rattle.tasks.specs.declared.table.Table.{Table}
use Rattle.tasks.specs.declared.refusal.Refusal.{Refusal}
use Rattle.tasks.specs.declared.refusal.Refusal.TheVariants.{Improper}
use Rattle.tasks.specs.declared.tick.Step.{Step}
use Rattle.tasks.specs.declared.state.State.{State}
use Rattle.states.specs.Bytes.{state_from, state_bytes}
use Rattle.session.specs.Session.{empty, fresh, mark_in, call_answer, called}
use Rattle.session.specs.Record.{blank, session_after, record_after, OnRecord}
use Rattle.session.specs.declared.marks.Session.{Session}
use Rattle.session.specs.declared.calls.Call.{Call}
use Rattle.session_bytes.specs.Space.{place, mark_from, session_from, flags, stored_written, mark_written, marks_written, session_written, space_by, space_after, sheet_call, sheet_space, calls_space}
use Rattle.lists.proofs.Fill.{eight_same}
use Rattle.lists.proofs.Digits.{bits_at}
use Rattle.tasks.proofs.RoundTrip.{read_valid}
use Rattle.slots.proofs.Bytes.{sets_other, sets_here, state_length, state_read}
use Rattle.session.proofs.Theorems.{record_law, no_thirteen}
use Rattle.session.proofs.CallLaws.{not_done}
use Rattle.session.proofs.MarkLaws.{by_stored}
use Rattle.session_bytes.proofs.SpaceLaws.{marks_length}
use Rattle.session_bytes.proofs.CallLaws.{sheet_calls}
use Rattle.session_bytes.proofs.Plain.{PlainMark, Plain, from_plain, called_plain}

-- ---- which bytes a mark's writing touches

stored_other : (o : Option State) (j : ℕ) (b : List ℕ) (k : ℕ) → (k < place j) ⊎ (place j + 16 ≤ k) → get_or (stored_written o j b) k 0 ≡ get_or b k 0
stored_other None j b k h = refl
stored_other (Some s) j b k h =
    sets_other (state_bytes s) b (place j) k (subst (λ n. (k < place j) ⊎ (place j + n ≤ k)) (sym (state_length s)) h)

mark_other : (x : Session) (i : ℕ) (b : List ℕ) (k : ℕ) → (k < place (i + 1)) ⊎ (place (i + 1) + 16 ≤ k) → get_or (mark_written x i b) k 0 ≡ get_or b k 0
unfolding mark_written
mark_other x i b k h = stored_other (mark_in x i) (i + 1) b k h

-- bytes before the first mark stay
marks_before : (x : Session) (n : ℕ) (b : List ℕ) (k : ℕ) → k < 17 → get_or (marks_written x n b) k 0 ≡ get_or b k 0
unfolding marks_written
marks_before x zero b k h = refl
marks_before x (suc n) b k h = mark_other x n (marks_written x n b) k (inl (omega arith)) ∙ marks_before x n b k h

mark_here :
    (x : Session) (i : ℕ) (b : List ℕ) (k : ℕ) {s : State} → mark_in x i ≡ Some s → place (i + 1) + 16 ≤ length b → k < 16
    → get_or (mark_written x i b) (place (i + 1) + k) 0 ≡ get_or (state_bytes s) k 0
unfolding mark_written
mark_here x i b k {s} e room h =
    let n = state_length s in
    rw e (sets_here (state_bytes s) b (place (i + 1)) k (omega arith) (omega arith))

-- the bytes of a mark that is set, after it was written
marks_here :
    (x : Session) (n : ℕ) (b : List ℕ) (i k : ℕ) {s : State} → i < n → n ≤ 8 → mark_in x i ≡ Some s → 145 ≤ length b → k < 16
    → get_or (marks_written x n b) (place (i + 1) + k) 0 ≡ get_or (state_bytes s) k 0
unfolding marks_written
marks_here x zero b i k h m e room l = absurd (omega arith)
marks_here x (suc n) b i k h m e room l =
    elim (ℕ_discrete i n) [
      | yes q ↦ rw (← q) (mark_here x i (marks_written x i b) k e (omega (arith, marks_length x i b)) l)
      | no q ↦ mark_other x n (marks_written x n b) (place (i + 1) + k) (inl (omega arith)) ∙ marks_here x n b i k (omega arith) (omega arith) e room l
    ]

module _ (x : Session) (b : List ℕ) (plain : Plain x) (room : 145 ≤ length b) where
  -- the flags and the present state, before the marks
  abbrev head : List ℕ
  head = flags x ∷ state_bytes x.present

  head_length : length head ≡ 17
  head_length = ap suc (state_length x.present)

  first_here : (k : ℕ) → k < 17 → get_or (session_written x b) k 0 ≡ get_or head k 0
  unfolding session_written
  first_here k h =
      marks_before x 8 (sets b 0 head) k h ∙ ap (λ n. get_or (sets b 0 head) n 0) (omega arith)
      ∙ sets_here head b 0 k (omega (arith, head_length)) (omega (arith, head_length))

  present_back : state_from (session_written x b) (place 0) ≡ x.present
  present_back =
      state_read x.present (session_written x b) 1 plain.present.c plain.present.p
      (λ k h. ap (λ n. get_or (session_written x b) n 0) (omega arith) ∙ first_here (suc k) (omega arith))

  flag_back : (i : ℕ) → i < 8 → bit (get_or (session_written x b) 0 0) i ≡ is_some (mark_in x i)
  unfolding flags
  flag_back i h = ap (λ n. bit n i) (first_here 0 (omega arith)) ∙ bits_at (λ j. is_some (mark_in x j)) 8 i h

  long : 145 ≤ length (sets b 0 head)
  long = omega (arith, length-sets b 0 head)

  state_back : (i : ℕ) (s : State) → i < 8 → mark_in x i ≡ Some s → state_from (session_written x b) (place (i + 1)) ≡ s
  unfolding session_written
  state_back i s h e =
      let eight = subst PlainMark e (plain.marks i h) in
      state_read s (session_written x b) (place (i + 1)) eight.c eight.p
      (λ k l. marks_here x 8 (sets b 0 head) i k h (omega arith) e long l)

  mark_back : (i : ℕ) → i < 8 → mark_from (session_written x b) i ≡ mark_in x i
  unfolding mark_from
  mark_back i h =
      by_stored (mark_in x i)
      (λ e. rw (flag_back i h, e))
      (λ s e. rw (flag_back i h, e) (ap Some (state_back i s h e)))

  -- LAW: a session that is written is read back
  pub written_read : session_from (session_written x b) ≡ x
  unfolding session_from
  written_read =
      ap₂ (λ s marks. record { present = s; marks = marks }) present_back
      (eight_same (mark_from (session_written x b)) (mark_in x) mark_back ∙ sym plain.list)

-- ---- one call

written_length : (x : Session) (b : List ℕ) → length (session_written x b) ≡ length b
unfolding session_written
written_length x b = marks_length x 8 (sets b 0 (flags x ∷ state_bytes x.present)) ∙ length-sets b 0 (flags x ∷ state_bytes x.present)

by_length : (a : Result Step Refusal) (x : Session) (b : List ℕ) → length (space_by a x b) ≡ length b
by_length (Ok Step.Next) x b = written_length x b
by_length (Ok Step.Missed) x b = refl
by_length (Err r) x b = refl

by_back :
    (a : Result Step Refusal) (x : Session) (b : List ℕ) → Plain x → 145 ≤ length b → ((a ≡ Ok Step.Next → ⊥) → x ≡ session_from b) → session_from (space_by a x b) ≡ x
by_back (Ok Step.Next) x b plain room f = written_read x b plain room
by_back (Ok Step.Missed) x b plain room f = sym (f (λ e. let z : ◌≡◌ {A = ℕ} 0 1 = cc in omega arith))
by_back (Err r) x b plain room f = sym (f (λ e. let z : ◌≡◌ {A = ℕ} 0 1 = cc in omega arith))

module _ (sheet : List ℕ) {table : Table} (accepted : sheet_of sheet ≡ Ok table) where
  call_length : (b : List ℕ) (c : Call) → 145 ≤ length b → length (sheet_space sheet b c) ≡ length b
  unfolding space_after
  call_length b c room =
      ap length (sheet_calls sheet b c accepted room).1 ∙ by_length (call_answer table (session_from b) c) (called table (session_from b) c) b

  -- LAW: the session in the bytes after a call is the session after the call
  pub call_back : (b : List ℕ) (c : Call) → 145 ≤ length b → session_from (sheet_space sheet b c) ≡ called table (session_from b) c
  unfolding space_after
  call_back b c room =
      let x = session_from b in
      ap session_from (sheet_calls sheet b c accepted room).1
      ∙ by_back (call_answer table x c) (called table x c) b (called_plain table x c (from_plain b)) room (not_done table x c)

  -- ---- lists of calls

  calls_length : (b : List ℕ) (cs : List Call) → 145 ≤ length b → length (calls_space sheet b cs) ≡ length b
  unfolding calls_space
  calls_length b [] room = refl
  calls_length b (c ∷ cs) room =
      let e = call_length b c room in
      calls_length (sheet_space sheet b c) cs (omega arith) ∙ e

  calls_back : (b : List ℕ) (cs : List Call) → 145 ≤ length b → session_from (calls_space sheet b cs) ≡ session_after table (session_from b) cs
  unfolding calls_space session_after
  calls_back b [] room = refl
  calls_back b (c ∷ cs) room =
      let e = call_length b c room in
      calls_back (sheet_space sheet b c) cs (omega arith) ∙ ap (λ x. session_after table x cs) (call_back b c room)

  module _ (bytes : (i : ℕ) → get_or sheet i 0 < 256) (b : List ℕ) (room : 145 ≤ length b) (zeros : (k : ℕ) → k < 145 → get_or b k 0 ≡ 0) where
    valid : table_fault table ≡ 0
    valid = read_valid sheet bytes table accepted

    no_flag : (i : ℕ) → i < 8 → bit (get_or b 0 0) i ≡ false
    unfolding bits_of
    no_flag i h = ap (λ n. bit n i) (zeros 0 (omega arith)) ∙ bits_at (λ j. false) 8 i h

    -- 145 zero bytes are a fresh session
    zeros_fresh : session_from b ≡ fresh
    unfolding session_from mark_from
    zeros_fresh =
        let none : ℕ → ℕ = λ k. 0 in
        ap₂ (λ s marks. record { present = s; marks = marks })
        (ap₂ (λ c p. record { c = c; p = p })
        (eight_same (λ k. get_or b (place 0 + 2 * k) 0) none (λ k h. zeros (place 0 + 2 * k) (omega arith)))
        (eight_same (λ k. get_or b (place 0 + 2 * k + 1) 0) none (λ k h. zeros (place 0 + 2 * k + 1) (omega arith))))
        (eight_same (mark_from b) (λ i. empty) (λ i h. rw (no_flag i h)))

    -- the session in the bytes is the one by value
    session_back : (cs : List Call) → session_from (calls_space sheet b cs) ≡ session_after table fresh cs
    session_back cs = calls_back b cs room ∙ ap (λ x. session_after table x cs) zeros_fresh

    -- THEOREM: from 145 zero bytes, for every list of calls with a sheet that is accepted, the bytes hold a session on record
    pub bytes_record : (cs : List Call) → OnRecord table (session_from (calls_space sheet b cs)) (record_after table fresh blank cs)
    bytes_record cs =
        subst (λ x. OnRecord table x (record_after table fresh blank cs)) (sym (session_back cs)) (record_law table valid cs)

    -- THEOREM: .. and each call answers as the call by value does, by which the record is kept
    pub bytes_answer : (cs : List Call) (c : Call) → sheet_call sheet (calls_space sheet b cs) c ≡ call_answer table (session_after table fresh cs) c
    bytes_answer cs c =
        let e = calls_length b cs room in
        (sheet_calls sheet (calls_space sheet b cs) c accepted (omega arith)).0 ∙ ap (λ x. call_answer table x c) (session_back cs)

    -- THEOREM: .. and none answers 13
    pub bytes_thirteen : (cs : List Call) (c : Call) → sheet_call sheet (calls_space sheet b cs) c ≡ Err Improper → ⊥
    bytes_thirteen cs c e = no_thirteen table valid cs c (sym (bytes_answer cs c) ∙ e)
