-- What a call on a session in bytes answers, and the space after it. Assumes nothing.
use Prim.Native.Nat.{ℕ, ◌≤◌, ◌<◌}
use mathlib.Core.Path.{◌≡◌, refl, sym, ap, ap₂, ◌∙◌}
use mathlib.Core.List.{List, ◌++◌}
use lib.ListN.{length, take, drop, take-append-drop}
use lib.Seq.{length-take-le}
use borrow.Author.Tests.{lt-ltb, le-ltb}
use Rattle.std.specs.Prelude.{Result, Ok, Err}
use Rattle.tasks.specs.Refusals.{refusal_number, refusal_at}
use Rattle.tasks.specs.Sheet.{sheet_of}
use Rattle.tasks.specs.declared.refusal.Refusal.{Refusal}
use Rattle.tasks.specs.declared.refusal.Refusal.TheVariants.{ShortOutput}
use Rattle.tasks.specs.declared.table.Table.{Table}
use Rattle.tasks.specs.declared.tick.Step.{Step}
use Rattle.session.specs.Session.{outcome}
use Rattle.session.specs.declared.marks.Session.{Session}
use Rattle.session.specs.declared.calls.Call.{Call}
use Rattle.session.specs.declared.calls.Called.{Called}
use Rattle.session_bytes.specs.Space.{session_from, space_by, space_after, sheet_call, sheet_space}
use Rattle.tasks.proofs.Refusals.{at_number, refusal_some}
use Rattle.session_bytes.proofs.SpaceLaws.{session_front, after_front}

-- with a table, by the call's answer
pub table_told :
    (t : Table) (b : List ℕ) (c : Call) {r : Called} {a : Result Step Refusal} {b' : List ℕ} → r ≡ outcome t (session_from b) c → r.answer ≡ a
    → b' ≡ space_by a r.session b → (a ≡ (outcome t (session_from b) c).answer) × (b' ≡ space_after (outcome t (session_from b) c) b)
unfolding space_after
table_told t b c {r} {a} {b'} e q h = (
  sym q ∙ ap (λ z. z.answer) e,
  h ∙ ap (λ z. space_by z r.session b) (sym q) ∙ ap (λ z. space_by z.answer z.session b) e,
)

-- a step that is not Next leaves every byte
pub not_next : (s : Step) (x : Session) (b : List ℕ) → (s ≡ Step.Next → ⊥) → b ≡ space_by (Ok s) x b
not_next Step.Next x b h = absurd (h refl)
not_next Step.Missed x b h = refl

module _ (sheet b : List ℕ) (c : Call) where
  -- what the call with the sheet promises of an answer and a space
  abbrev pub Told : Result Step Refusal → List ℕ → Type 0
  Told a b' = (a ≡ sheet_call sheet b c) × (b' ≡ sheet_space sheet b c)

  pub sheet_refused : {r : Refusal} → sheet_of sheet ≡ Err r → Told (Err r) b
  unfolding sheet_call sheet_space
  sheet_refused {r} e = let l = lt-ltb 0 (refusal_number r) (refusal_some r) in (rw (e, l, at_number r), rw (e, l))

  module _ {t : Table} (e : sheet_of sheet ≡ Ok t) where
    pub space_short : length b < 145 → Told (Err ShortOutput) b
    unfolding sheet_call sheet_space refusal_at
    space_short h = let s = lt-ltb (length b) 145 h in (rw (e, s), rw (e, s))

    -- the call of the sheet's table
    pub sheet_calls :
        145 ≤ length b → (sheet_call sheet b c ≡ (outcome t (session_from b) c).answer)
        × (sheet_space sheet b c ≡ space_after (outcome t (session_from b) c) b)
    unfolding sheet_call sheet_space
    sheet_calls h = let s = le-ltb (length b) 145 h in (rw (e, s), rw (e, s))

    -- .. from the first 145 bytes, beside which the later ones stay
    pub sheet_front :
        145 ≤ length b → {r : Result Step Refusal} {a a' : List ℕ} → a ≡ take 145 b
        → (r ≡ (outcome t (session_from a) c).answer) × (a' ≡ space_after (outcome t (session_from a) c) a) → Told r (a' ++ drop 145 b)
    sheet_front h {r} {a} {a'} f told =
        let d = drop 145 b in
        let n : length a ≡ 145 = ap length f ∙ length-take-le 145 b h in
        let whole : a ++ d ≡ b = ap (λ l. l ++ d) f ∙ take-append-drop 145 b in
        let same : session_from a ≡ session_from b = sym (session_front a d n) ∙ ap session_from whole in
        let calls = sheet_calls h in (
          told.0 ∙ ap (λ x. (outcome t x c).answer) same ∙ sym calls.0,
          ap (λ l. l ++ d) told.1 ∙ sym (after_front (outcome t (session_from a) c) a d n)
              ∙ ap₂ (λ x l. space_after (outcome t x c) l) same whole
              ∙ sym calls.1,
        )
