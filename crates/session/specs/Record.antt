-- The record beside a session (document 02, §8): for every list of calls "the present state is the replay of the release list on record".
use Rattle.std.specs.Prelude.{ℕ, ◌≡◌, List, [], ◌∷◌, ◌++◌, eqb, Option, Some, None, Result, Ok, Err}
use Rattle.lists.specs.Lists.{pick}
use Rattle.tasks.specs.Replay.{replayed}
use Rattle.tasks.specs.declared.refusal.Refusal.{Refusal}
use Rattle.tasks.specs.declared.tick.Step.{Step}
use Rattle.tasks.specs.declared.state.State.{State}
use Rattle.tasks.specs.declared.table.Table.{Table}
use Rattle.tasks.specs.declared.play.Outcome.TheVariants.{Kept}
use Rattle.tasks.specs.declared.play.ReplayAnswer.TheVariants.{Played}
use Rattle.session.specs.Session.{mark_at, call_answer, called}
use Rattle.session.specs.declared.marks.Session.{Session}
use Rattle.session.specs.declared.calls.Call.{Call}

-- ---- the record

-- what is stored under a mark
pub data Stored : Type 0 where
  Nothing : Stored
  Listed : List ℕ → Stored

-- the release list on record, and what is stored under each mark, by its number
pub record Record : Type 0 where
  pub list : List ℕ
  pub stored : ℕ → Stored

-- the record of a fresh session
abbrev pub blank : Record
blank = record { list = []; stored = λ k. Nothing }

-- "set stores the list under the mark"
abbrev pub stored_under : Record → ℕ → Record
stored_under h k = record { list = h.list; stored = λ j. pick (eqb j k) (Listed h.list) (h.stored j) }

-- "return brings that list back"
abbrev pub brought_back : Record → Stored → Record
brought_back h Nothing = h
brought_back h (Listed l) = record { list = l; stored = h.stored }

-- the record after a call that is done: "a step accepted without a miss adds its mask"
abbrev pub note_done : Record → Call → Record
note_done h (Call.Step mask) = record { list = h.list ++ (mask ∷ []); stored = h.stored }
note_done h (Call.SetMark k) = stored_under h k
note_done h (Call.ReturnTo k) = brought_back h (h.stored k)

-- .. and by the call's answer: "a refused call alters neither record nor session", and no more does a miss
abbrev pub noted : Record → Call → Result Step Refusal → Record
noted h c (Ok Step.Next) = note_done h c
noted h c (Ok Step.Missed) = h
noted h c (Err r) = h

-- ---- a list of calls, one after the other, with the same table

unfoldable pub session_after : Table → Session → List Call → Session
session_after t x [] = x
session_after t x (c ∷ cs) = session_after t (called t x c) cs

unfoldable pub record_after : Table → Session → Record → List Call → Record
record_after t x h [] = h
record_after t x h (c ∷ cs) = record_after t (called t x c) (noted h c (call_answer t x c)) cs

-- ---- what the record says of the session

-- the replay of a list is Kept with a state
abbrev pub KeptAs : Table → List ℕ → State → Type 0
KeptAs t l s = replayed t l ≡ record { answer = Played Kept; state = s }

-- a mark is empty where nothing is stored under it, and otherwise its state is the replay of the list
abbrev pub MarkOnRecord : Table → Option State → Stored → Type 0
MarkOnRecord t mark Nothing = mark ≡ None
MarkOnRecord t mark (Listed l) = (s : State) × (mark ≡ Some s) × KeptAs t l s

-- the present state is the replay of the list on record, and each mark's that of what is stored under it
pub record OnRecord (t : Table) (x : Session) (h : Record) : Type 0 where
  pub present : KeptAs t h.list x.present
  pub marks : (k : ℕ) → MarkOnRecord t (mark_at x k) (h.stored k)
