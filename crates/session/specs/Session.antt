-- A session with marks (document 02, §8): its present state, eight marks, and the calls step, set mark and return to mark, for any table
-- and session. Marks are numbered from 1 in a call, as the paper has them, and from 0 in the list.
use Rattle.std.specs.Prelude.{ℕ, ◌+◌, ◌-◌, Bool, false, ◌||◌, List, [], ◌∷◌, eqb, ltb, get_or, Option, Some, None, is_some, Result, Ok, Err}
use Rattle.std.specs.Option.{unwrap_or}
use Rattle.lists.specs.Lists.{eight, pick, any}
use Rattle.tasks.specs.Table.{outside, table_fault}
use Rattle.tasks.specs.State.{start, improper}
use Rattle.tasks.specs.Tick.{answered, ticked}
use Rattle.tasks.specs.declared.state.State.{State}
use Rattle.tasks.specs.declared.table.Table.{Table}
use Rattle.tasks.specs.Refusals.{refusal_number, refusal_at, unless_refused}
use Rattle.tasks.specs.declared.refusal.Refusal.{Refusal}
use Rattle.tasks.specs.declared.tick.Step.{Step}
use Rattle.tasks.specs.declared.tick.Ticked.{Ticked}
use Rattle.session.specs.declared.marks.Session.{Session}
use Rattle.session.specs.declared.calls.Call.{Call}
use Rattle.session.specs.declared.calls.Stepped.{Stepped}
use Rattle.session.specs.declared.calls.Called.{Called}

-- ---- the session: "a present state and eight marks, first empty"

-- a mark that is not set has no state
abbrev pub empty : Option State
empty = None

-- a fresh session: the start state, no marks
abbrev pub fresh : Session
fresh = record { present = start; marks = eight (λ i. empty) }

-- the ith mark of the list, counted from 0
abbrev pub mark_in : Session → ℕ → Option State
mark_in x i = get_or x.marks i empty

-- mark k, "1 to 8"; any other number has none
unfoldable pub mark_at : Session → ℕ → Option State
mark_at x k = pick (outside k) empty (mark_in x (k - 1))

-- ---- refusals, 0 where there is none

-- the first of two that applies
abbrev pub first_of : ℕ → ℕ → ℕ
first_of a b = pick (ltb 0 a) a b

-- a mark is set, and its state is not proper
abbrev pub improper_stored : Table → Option State → Bool
improper_stored t None = false
improper_stored t (Some s) = improper t s

-- the ith mark is
unfoldable pub improper_mark : Table → Session → ℕ → Bool
improper_mark t x i = improper_stored t (mark_in x i)

-- "a session handed in with an improper state, present or marked"
unfoldable pub improper_session : Table → Session → Bool
improper_session t x = improper t x.present || any 8 (improper_mark t x)

-- why every call is refused: 4 to 7, then 13
unfoldable pub session_fault : Table → Session → ℕ
session_fault t x = first_of (table_fault t) (pick (improper_session t x) 13 0)

-- "15, a mark outside 1 to 8"
unfoldable pub beyond : ℕ → ℕ
beyond k = pick (outside k) 15 0

-- "16, a return to a mark never set"
unfoldable pub never_set : Session → ℕ → ℕ
never_set x k = pick (is_some (mark_at x k)) 0 16

-- why mark k is not set, and why there is no return to it: 15 is "judged before 16"
unfoldable pub set_refusal : Table → Session → ℕ → ℕ
set_refusal t x k = first_of (session_fault t x) (beyond k)

unfoldable pub return_refusal : Table → Session → ℕ → ℕ
return_refusal t x k = first_of (session_fault t x) (first_of (beyond k) (never_set x k))

-- ---- step with a mask

-- "a step answers as the tick from the present state does", and has the tick's state beside it; a session that is refused is not ticked
unfoldable pub step_tick : Table → Session → ℕ → Ticked
step_tick t x mask = pick (ltb 0 (session_fault t x)) (answered (Err (refusal_at (session_fault t x))) x.present) (ticked t x.present mask)

-- the session with another present state
abbrev pub moved : Session → State → Session
moved x s = record { present = s; marks = x.marks }

-- the session after a tick: "after a miss the session stays where it was"
abbrev pub after_tick : Session → State → Result Step Refusal → Session
after_tick x s (Ok Step.Next) = moved x s
after_tick x s (Ok Step.Missed) = x
after_tick x s (Err r) = x

unfoldable pub stepped : Table → Session → ℕ → Stepped
stepped t x mask = record { ticked = step_tick t x mask; session = after_tick x (step_tick t x mask).state (step_tick t x mask).answer }

-- ---- set mark, return to mark

-- the session with its present state under mark k
unfoldable pub marked : Session → ℕ → Session
marked x k =
    record {
      present = x.present;
      marks = eight (λ i. pick (eqb (i + 1) k) (Some x.present) (mark_in x i));
    }

-- a refusal with the session given, or done, which is Next, with the one after the call
abbrev pub settled : Session → Result Session Refusal → Called
settled x (Ok x') = record { answer = Ok Step.Next; session = x' }
settled x (Err r) = record { answer = Err r; session = x }

unfoldable pub mark_set : Table → Session → ℕ → Called
mark_set t x k = settled x (unless_refused (set_refusal t x k) (marked x k))

-- the mark that is returned to stays; where none is set there is a refusal
unfoldable pub returned : Table → Session → ℕ → Called
returned t x k = settled x (unless_refused (return_refusal t x k) (moved x (unwrap_or (mark_at x k) x.present)))

-- ---- any of the calls

-- a step's answer is that of its tick, without the tick's state
abbrev pub without_state : Stepped → Called
without_state r = record { answer = r.ticked.answer; session = r.session }

-- a call's outcome: its answer, and the session after it
abbrev pub outcome : Table → Session → Call → Called
outcome t x (Call.Step mask) = without_state (stepped t x mask)
outcome t x (Call.SetMark k) = mark_set t x k
outcome t x (Call.ReturnTo k) = returned t x k

abbrev pub call_answer : Table → Session → Call → Result Step Refusal
call_answer t x c = (outcome t x c).answer

abbrev pub called : Table → Session → Call → Session
called t x c = (outcome t x c).session

-- ---- the answer in figures, as Answers.antt of `tasks` has them: kind 1 done, kind 2 Missed, kind 0 with the refusal's number

unfoldable pub session_answer : Result Step Refusal → List ℕ
session_answer (Ok Step.Next) = 1 ∷ []
session_answer (Ok Step.Missed) = 2 ∷ []
session_answer (Err r) = 0 ∷ refusal_number r ∷ []
