-- Sessions that bytes can hold, which the calls keep: the lists of their states have eight numbers, those of marks too. Assumes nothing.
use Prim.Native.Nat.{ℕ, ◌+◌, ◌-◌, ◌<◌}
use mathlib.Core.Path.{◌≡◌, refl, sym, subst}
use mathlib.Core.List.{List}
use native.Mathlib.Omega.{arith}
use lib.Dec.{eqb, ltb}
use lib.ListN.{length, get_or}
use Rattle.std.specs.Prelude.{Option, Some, None, Result, Ok, Err}
use Rattle.std.specs.Option.{unwrap_or}
use Rattle.lists.specs.Lists.{eight, pick}
use Rattle.tasks.specs.Table.{outside}
use Rattle.tasks.specs.Tick.{bit, refusal, missed, ran, after, ticked}
use Rattle.tasks.specs.declared.state.State.{State}
use Rattle.tasks.specs.declared.table.Table.{Table}
use Rattle.tasks.specs.Refusals.{unless_refused}
use Rattle.tasks.specs.declared.refusal.Refusal.{Refusal}
use Rattle.tasks.specs.declared.tick.Step.{Step}
use Rattle.states.specs.Bytes.{state_from}
use Rattle.session.specs.Session.{empty, mark_in, mark_at, session_fault, set_refusal, return_refusal, step_tick, moved, after_tick, stepped, marked, settled, mark_set, returned, called}
use Rattle.session.specs.declared.marks.Session.{Session}
use Rattle.session.specs.declared.calls.Call.{Call}
use Rattle.session_bytes.specs.Space.{place, mark_from, session_from}
use Rattle.lists.proofs.Bools.{by_bool}
use Rattle.lists.proofs.Fill.{eight_at}
use Rattle.session.proofs.MarkLaws.{within}

-- a state of eight tasks
pub record Eight (s : State) : Type 0 where
  pub c : length s.c ≡ 8
  pub p : length s.p ≡ 8

-- a mark that is set has such a state
abbrev pub PlainMark : Option State → Type 0
PlainMark None = Unit {0}
PlainMark (Some s) = Eight s

pub record Plain (x : Session) : Type 0 where
  pub present : Eight x.present
  pub list : x.marks ≡ eight (mark_in x)
  pub marks : (i : ℕ) → i < 8 → PlainMark (mark_in x i)

pub from_eight : (b : List ℕ) (at : ℕ) → Eight (state_from b at)
from_eight b at = record { c = refl; p = refl }

-- ---- a session read from bytes

mark_plain : (b : List ℕ) (i : ℕ) → PlainMark (mark_from b i)
unfolding mark_from
mark_plain b i =
    by_bool (bit (get_or b 0 0) i)
    (λ e. rw e (from_eight b (place (i + 1))))
    (λ e. rw e tt)

pub from_plain : (b : List ℕ) → Plain (session_from b)
unfolding session_from
from_plain b =
    record {
      present = from_eight b (place 0);
      list = refl;
      marks = λ i h. subst PlainMark (sym (eight_at empty (mark_from b) i h)) (mark_plain b i);
    }

-- ---- a session after a call

after_eight : (t : Table) (s : State) (mask : ℕ) → Eight (after t s mask)
unfolding after ran
after_eight t s mask = record { c = refl; p = refl }

ticked_eight : (t : Table) (s : State) (mask : ℕ) → Eight s → Eight (ticked t s mask).state
unfolding ticked
ticked_eight t s mask e =
    by_bool (ltb 0 (refusal t s mask)) (λ r. rw r e)
    (λ r. by_bool (missed t (after t s mask)) (λ m. rw (r, m) (after_eight t s mask)) (λ m. rw (r, m) (after_eight t s mask)))

step_eight : (t : Table) (x : Session) (mask : ℕ) → Eight x.present → Eight (step_tick t x mask).state
unfolding step_tick
step_eight t x mask e =
    by_bool (ltb 0 (session_fault t x)) (λ r. rw r e) (λ r. rw r (ticked_eight t x.present mask e))

moved_plain : (x : Session) (s : State) → Eight s → Plain x → Plain (moved x s)
moved_plain x s e plain = record { present = e; list = plain.list; marks = plain.marks }

after_plain : (x : Session) (s : State) (a : Result Step Refusal) → Eight s → Plain x → Plain (after_tick x s a)
after_plain x s (Ok Step.Next) e plain = moved_plain x s e plain
after_plain x s (Ok Step.Missed) e plain = plain
after_plain x s (Err r) e plain = plain

set_plain : (x : Session) (k : ℕ) → Plain x → Plain (marked x k)
unfolding marked
set_plain x k plain =
    record {
      present = plain.present;
      list = refl;
      marks = λ i h.
          subst PlainMark
          (sym (eight_at empty (λ j. pick (eqb (j + 1) k) (Some x.present) (mark_in x j)) i h))
          (by_bool (eqb (i + 1) k)
          (λ e. rw e plain.present)
          (λ e. rw e (plain.marks i h)));
    }

at_plain : (x : Session) (k : ℕ) → Plain x → PlainMark (mark_at x k)
unfolding mark_at
at_plain x k plain =
    by_bool (outside k) (λ e. rw e tt) (λ e. rw e (plain.marks (k - 1) (omega (arith, within k e))))

-- the state of a mark, where it is set, and else the present one
or_eight : (mark : Option State) (s : State) → PlainMark mark → Eight s → Eight (unwrap_or mark s)
or_eight None s plain e = e
or_eight (Some s') s plain e = plain

settled_plain : (n : ℕ) (x x' : Session) → Plain x → Plain x' → Plain (settled x (unless_refused n x')).session
unfolding unless_refused
settled_plain n x x' plain plain' = by_bool (ltb 0 n) (λ e. rw e plain) (λ e. rw e plain')

pub called_plain : (t : Table) (x : Session) (c : Call) → Plain x → Plain (called t x c)
unfolding stepped mark_set returned
called_plain t x (Call.Step mask) plain =
    after_plain x (step_tick t x mask).state (step_tick t x mask).answer (step_eight t x mask plain.present) plain
called_plain t x (Call.SetMark k) plain = settled_plain (set_refusal t x k) x (marked x k) plain (set_plain x k plain)
called_plain t x (Call.ReturnTo k) plain =
    let back = unwrap_or (mark_at x k) x.present in
    settled_plain (return_refusal t x k) x (moved x back) plain (moved_plain x back (or_eight (mark_at x k) x.present (at_plain x k plain) plain.present) plain)
