-- What the calls on a session answer. Assumes nothing.
use Prim.Native.Nat.{ℕ}
use mathlib.Core.Path.{◌≡◌, refl, ap, ap₂}
use native.Mathlib.Omega.{arith}
use borrow.Author.Tests.{lt-ltb}
use Rattle.std.specs.Prelude.{Result, Ok, Err}
use Rattle.std.specs.Option.{unwrap_or}
use Rattle.tasks.specs.Answers.{tick_answer}
use Rattle.tasks.specs.Refusals.{unless_refused}
use Rattle.tasks.specs.declared.refusal.Refusal.{Refusal}
use Rattle.tasks.specs.declared.table.Table.{Table}
use Rattle.tasks.specs.declared.state.State.{State}
use Rattle.tasks.specs.declared.tick.Step.{Step}
use Rattle.session.specs.Session.{mark_at, first_of, set_refusal, return_refusal, moved, after_tick, step_tick, stepped, marked, settled, mark_set, returned, call_answer, called, session_answer}
use Rattle.session.specs.declared.marks.Session.{Session}
use Rattle.session.specs.declared.calls.Call.{Call}
use Rattle.session.specs.declared.calls.Called.{Called}
use Rattle.session.specs.declared.calls.Stepped.{Stepped}
use Rattle.lists.proofs.Picks.{pick_yes}
use Rattle.tasks.proofs.Answers.{other, second, tick_is}
use Rattle.tasks.proofs.Refusals.{refused_unless, accepted_unless, refused_same, number_same}

-- the first of two refusals, where the first applies, and where it does not
pub refused_first : {A B : Type 0} {r : Refusal} (a b : ℕ) (x : A) (y : B) → unless_refused a x ≡ Err r → Err r ≡ unless_refused (first_of a b) y
refused_first a b x y e = refused_same x y (pick_yes b (lt-ltb 0 a (refused_unless a x e).0)) e

pub accepted_first : {A : Type 0} {z : A} (a b : ℕ) (x : A) → unless_refused a x ≡ Ok z → b ≡ first_of a b
accepted_first a b x e = rw (accepted_unless a x e).0

-- LAW: what a step answers is told by its figures, its state and its session
pub step_is :
    {a b : Stepped} → (tick_answer a.ticked ≡ tick_answer b.ticked) × (a.ticked.state ≡ b.ticked.state) × (a.session ≡ b.session)
    → a ≡ b
step_is e = ap₂ (λ r x. record { ticked = r; session = x }) (tick_is (e.0, e.1)) e.2

-- LAW: a call's answer is told by its figures
pub session_answer_is : {a b : Result Step Refusal} → session_answer a ≡ session_answer b → a ≡ b
unfolding session_answer
session_answer_is {a = Ok Step.Next} {b = Ok Step.Next} e = refl
session_answer_is {a = Ok Step.Next} {b = Ok Step.Missed} e = other (λ h. omega arith) e
session_answer_is {a = Ok Step.Next} {b = Err r} e = other (λ h. omega arith) e
session_answer_is {a = Ok Step.Missed} {b = Ok Step.Next} e = other (λ h. omega arith) e
session_answer_is {a = Ok Step.Missed} {b = Ok Step.Missed} e = refl
session_answer_is {a = Ok Step.Missed} {b = Err r} e = other (λ h. omega arith) e
session_answer_is {a = Err r} {b = Ok Step.Next} e = other (λ h. omega arith) e
session_answer_is {a = Err r} {b = Ok Step.Missed} e = other (λ h. omega arith) e
session_answer_is {a = Err r} {b = Err q} e = ap Err (number_same (second e))

-- LAW: what a call answers is told by its figures and its session
pub called_is : {a b : Called} → (session_answer a.answer ≡ session_answer b.answer) × (a.session ≡ b.session) → a ≡ b
called_is e = ap₂ (λ a x. record { answer = a; session = x }) (session_answer_is e.0) e.1

-- ---- a call that is not done

after_stays : (x : Session) (s : State) (a : Result Step Refusal) → (a ≡ Ok Step.Next → ⊥) → after_tick x s a ≡ x
after_stays x s (Ok Step.Next) h = absurd (h refl)
after_stays x s (Ok Step.Missed) h = refl
after_stays x s (Err r) h = refl

settled_stays : (x : Session) (a : Result Session Refusal) → ((settled x a).answer ≡ Ok Step.Next → ⊥) → (settled x a).session ≡ x
settled_stays x (Ok x') h = absurd (h refl)
settled_stays x (Err r) h = refl

-- LAW: a call that is refused or misses leaves the session
pub not_done : (t : Table) (x : Session) (c : Call) → (call_answer t x c ≡ Ok Step.Next → ⊥) → called t x c ≡ x
unfolding stepped mark_set returned
not_done t x (Call.Step mask) h = after_stays x (step_tick t x mask).state (step_tick t x mask).answer h
not_done t x (Call.SetMark k) h = settled_stays x (unless_refused (set_refusal t x k) (marked x k)) h
not_done t x (Call.ReturnTo k) h = settled_stays x (unless_refused (return_refusal t x k) (moved x (unwrap_or (mark_at x k) x.present))) h
