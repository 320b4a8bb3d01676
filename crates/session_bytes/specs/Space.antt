-- A session in 145 bytes, which whoever calls keeps (document 02, §8, for the plotter's C build): a byte of flags, the present state's 16
-- bytes, then the 16 bytes of each of eight marks. A state's bytes are those of a slot (Bytes.antt of `states`).
use Rattle.std.specs.Prelude.{ℕ, zero, suc, ◌+◌, ◌*◌, List, [], ◌∷◌, ltb, length, get_or, Option, Some, None, is_some, Result, Ok, Err}
use Rattle.std.proofs.lemmas.List.Edits.{sets}
use Rattle.lists.specs.Lists.{eight, pick, bits_of}
use Rattle.tasks.specs.Tick.{bit}
use Rattle.tasks.specs.Refusals.{refusal_number, refusal_at}
use Rattle.tasks.specs.Sheet.{sheet_of, table_in}
use Rattle.tasks.specs.declared.refusal.Refusal.{Refusal}
use Rattle.tasks.specs.declared.table.Table.{Table}
use Rattle.tasks.specs.declared.tick.Step.{Step}
use Rattle.tasks.specs.declared.state.State.{State}
use Rattle.states.specs.Bytes.{state_from, state_bytes}
use Rattle.session.specs.Session.{empty, mark_in, outcome}
use Rattle.session.specs.declared.marks.Session.{Session}
use Rattle.session.specs.declared.calls.Call.{Call}
use Rattle.session.specs.declared.calls.Called.{Called}

-- where state j begins: 0 is the present one, and k that of mark k
abbrev pub place : ℕ → ℕ
place j = 1 + 16 * j

-- ---- a session read

-- the ith mark, counted from 0: set where bit i of the flags is; the bytes of a mark that is not set are not read
unfoldable pub mark_from : List ℕ → ℕ → Option State
mark_from b i = pick (bit (get_or b 0 0) i) (Some (state_from b (place (i + 1)))) empty

unfoldable pub session_from : List ℕ → Session
session_from b = record { present = state_from b (place 0); marks = eight (mark_from b) }

-- ---- a session written

-- bit i where the ith mark is set
unfoldable pub flags : Session → ℕ
flags x = bits_of 8 (λ i. is_some (mark_in x i))

-- the state of a mark that is set, as state j; the bytes of a mark that is not set stay
abbrev pub stored_written : Option State → ℕ → List ℕ → List ℕ
stored_written None j b = b
stored_written (Some s) j b = sets b (place j) (state_bytes s)

-- the ith mark's
unfoldable pub mark_written : Session → ℕ → List ℕ → List ℕ
mark_written x i b = stored_written (mark_in x i) (i + 1) b

-- those of the first n marks
unfoldable pub marks_written : Session → ℕ → List ℕ → List ℕ
marks_written x zero b = b
marks_written x (suc n) b = mark_written x n (marks_written x n b)

-- the flags, the present state and the marks
unfoldable pub session_written : Session → List ℕ → List ℕ
session_written x b = marks_written x 8 (sets b 0 (flags x ∷ state_bytes x.present))

-- ---- a call with a sheet's table

-- why the session is not called: 1 to 8 of the sheet, then 12 where the space is shorter than 145 bytes, which is then not read
abbrev pub space_refusal : Result Table Refusal → List ℕ → ℕ
space_refusal (Ok t) b = pick (ltb (length b) 145) 12 0
space_refusal (Err r) b = refusal_number r

-- the space after a call with a table: a refusal leaves every byte, and so does a miss
abbrev pub space_by : Result Step Refusal → Session → List ℕ → List ℕ
space_by (Ok Step.Next) x b = session_written x b
space_by (Ok Step.Missed) x b = b
space_by (Err r) x b = b

unfoldable pub space_after : Called → List ℕ → List ℕ
space_after r b = space_by r.answer r.session b

-- what the call answers
unfoldable pub sheet_call : List ℕ → List ℕ → Call → Result Step Refusal
sheet_call sheet b c =
    pick (ltb 0 (space_refusal (sheet_of sheet) b)) (Err (refusal_at (space_refusal (sheet_of sheet) b)))
    (outcome (table_in (sheet_of sheet)) (session_from b) c).answer

-- .. and the space afterwards
unfoldable pub sheet_space : List ℕ → List ℕ → Call → List ℕ
sheet_space sheet b c =
    pick (ltb 0 (space_refusal (sheet_of sheet) b)) b (space_after (outcome (table_in (sheet_of sheet)) (session_from b) c) b)

-- the space after a list of calls with the same sheet
unfoldable pub calls_space : List ℕ → List ℕ → List Call → List ℕ
calls_space sheet b [] = b
calls_space sheet b (c ∷ cs) = calls_space sheet (sheet_space sheet b c) cs
