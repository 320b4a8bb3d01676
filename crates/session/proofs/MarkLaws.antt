-- The marks of a session, one by one. Assumes nothing.
use Prim.Native.Nat.{ℕ, ◌+◌, ◌-◌, ◌≤◌, ◌<◌}
use mathlib.Core.Path.{◌≡◌, refl, sym, ap, ◌∙◌}
use mathlib.Core.Bool.{Bool, false}
use mathlib.Core.List.{List, map}
use native.Mathlib.Omega.{arith}
use native.Mathlib.Decide.{ℕ_discrete}
use lib.Dec.{eqb, ltb}
use lib.ListN.{length, get_or, set, length-set, length-map}
use lib.Seq.{ext_get_or, get_or-set_same, get_or-set_other}
use borrow.Author.Tests.{ltb-false, eq-eqb, ne_eqb}
use Rattle.std.specs.Prelude.{Option, Some, None, Ok, is_some, ok_or, IfSome, MatchOption}
use Rattle.std.specs.Option.{unwrap_or}
use Rattle.lists.specs.Lists.{eight, pick}
use Rattle.tasks.specs.Table.{outside}
use Rattle.tasks.specs.State.{improper}
use Rattle.tasks.specs.Refusals.{refusal_at, unless_refused}
use Rattle.tasks.specs.declared.refusal.Refusal.TheVariants.{MarkUnset}
use Rattle.tasks.specs.declared.state.State.{State}
use Rattle.tasks.specs.declared.table.Table.{Table}
use Rattle.session.specs.Session.{mark_in, mark_at, improper_stored, beyond, never_set}
use Rattle.session.specs.declared.marks.Session.{Session}
use Rattle.lists.proofs.Bools.{by_bool, nor_left, nor_right}
use Rattle.lists.proofs.Picks.{pick_yes, pick_no}
use Rattle.lists.proofs.Fill.{eight_at}
use Rattle.tasks.proofs.Refusals.{accepted_unless}

-- a number of a mark
pub within : (k : ℕ) → outside k ≡ false → (1 ≤ k) × (k ≤ 8)
within k e = (omega (arith, ltb-false k 1 (nor_left (ltb k 1) (ltb 8 k) e)), omega (arith, ltb-false 8 k (nor_right (ltb k 1) (ltb 8 k) e)))

-- 15 does not apply
pub not_beyond : (k : ℕ) → beyond k ≡ 0 → outside k ≡ false
unfolding beyond
not_beyond k e = by_bool (outside k) (λ h. absurd (let z = rw h at e in omega arith)) (λ h. h)

-- the place of a mark
pub place_at : (k : ℕ) {i : ℕ} → unless_refused (beyond k) (k - 1) ≡ Ok i → (outside k ≡ false) × (i ≡ k - 1) × (i < 8)
place_at k e =
    let f = accepted_unless (beyond k) (k - 1) e in
    let here = not_beyond k f.0 in
    let range = within k here in
    (here, f.1, omega arith)

-- what an array of structs tells of its length, for `search`
pub length_mapped : (X Y : Type 0) (f : X → Y) (l : List X) (n : ℕ) → length (map f l) ≡ n → length l ≡ n
length_mapped X Y f l n e = sym (length-map l f) ∙ e

-- by what is stored
pub by_stored : {X : Type 0} (o : Option State) → (o ≡ None → X) → ((s : State) → o ≡ Some s → X) → X
by_stored None f g = f refl
by_stored (Some s) f g = g s refl

-- the state under a mark, or 16
pub stored_or :
    (x : Session) (k : ℕ) → outside k ≡ false
    → ok_or (mark_in x (k - 1)) MarkUnset ≡ unless_refused (never_set x k) (unwrap_or (mark_at x k) x.present)
unfolding never_set unless_refused refusal_at mark_at
stored_or x k e = by_stored (mark_in x (k - 1)) (λ q. rw (e, q)) (λ s q. rw (e, q))

-- what is stored where a test holds
pub stored_where :
    (o : Option State) (s : State) {b : Bool} {P : State → Type 0} → is_some o ≡ b → IfSome o P → ((r : State) → P r → r ≡ s)
    → o ≡ pick b (Some s) None
stored_where None s e p f = rw (← e)
stored_where (Some r) s e p f = rw (← e) (ap Some (f r p))

-- a test of the state that is stored, where each state's answer is that it is improper
pub stored_tested :
    (t : Table) (o : Option State) {P : State → Type 0} {r : Bool} → ((s : State) → P s → r ≡ improper t s) → MatchOption o (r ≡ false) P
    → r ≡ improper_stored t o
stored_tested t None f e = e
stored_tested t (Some s) f e = f s e

module _ {A : Type 0} (d v : A) (l : List A) (len : length l ≡ 8) where
  -- the list with v as the kth, counted from 1
  abbrev stored : ℕ → ℕ → A
  stored k i = pick (eqb (i + 1) k) v (get_or l i d)

  stored_here : (k : ℕ) → 1 ≤ k → v ≡ stored k (k - 1)
  stored_here k h = pick_yes _ (eq-eqb (k - 1 + 1) k (omega arith))

  stored_there : (k i : ℕ) → (i + 1 ≡ k → ⊥) → get_or l i d ≡ stored k i
  stored_there k i ne = pick_no _ (ne_eqb (i + 1) k ne) refl

  pub stores_one : (k : ℕ) → outside k ≡ false → set l (k - 1) v ≡ eight (stored k)
  stores_one k e =
      let range = within k e in
      let same = length-set l (k - 1) v in
      ext_get_or d (set l (k - 1) v) (eight (stored k)) (same ∙ len)
      (λ i h.
      elim (ℕ_discrete (k - 1) i) [
        | yes q ↦ rw (← q) (get_or-set_same l (k - 1) v d (omega arith) ∙ stored_here k range.0 ∙ sym (eight_at d (stored k) (k - 1) (omega arith)))
        | no q ↦
            get_or-set_other l (k - 1) i v d (λ z. q (sym z)) ∙ stored_there k i (λ z. q (omega arith))
            ∙ sym (eight_at d (stored k) i (omega (arith, same)))
      ])
