-- The cut agrees with play under P-GFP (document 02, §9). Assumes nothing.
use Prim.Native.Nat.{ℕ, ◌+◌}
use mathlib.Core.Path.{◌≡◌, sym, ap, ◌∙◌}
use mathlib.Core.Bool.{false}
use mathlib.Core.List.{List, [], ◌∷◌, ◌++◌}
use native.Mathlib.Omega.{arith}
use lib.Dec.{ltb}
use lib.ListN.{length}
use borrow.Author.Tests.{ltb-true, ltb-false}
use Rattle.lists.specs.Lists.{pick}
use Rattle.lists.proofs.Bools.{by_bool}
use Rattle.std.specs.Prelude.{Ok}
use Rattle.tasks.specs.State.{start, improper}
use Rattle.tasks.specs.Tick.{illegal, after, missed, refusal, answered, ticked}
use Rattle.tasks.specs.Replay.{played, replayed}
use Rattle.tasks.specs.declared.state.State.{State}
use Rattle.tasks.specs.declared.table.Table.{Table}
use Rattle.tasks.specs.declared.tick.Step.TheVariants as Tick
use Rattle.tasks.specs.declared.play.Outcome.TheVariants.{Kept, Missed}
use Rattle.tasks.specs.declared.play.ReplayAnswer.TheVariants.{Played}
use Rattle.tasks.proofs.Answered.{ticked_refused, refusal_passed, ticked_legal, next_passed}
use Rattle.tasks.proofs.Played.{replayed_played}
use Rattle.tasks.proofs.Joined.{kept, next_kept, played_joined}
use Rattle.cut.specs.Cut.{cut_table, cut_state, cut_mask, cut_list, cut_refusal}
use Rattle.cut.proofs.CutLaws.{low_bits, start_cut}
use Rattle.cut.proofs.MaskLaws.{list_length, list_joined}
use Rattle.cut.proofs.TickLaws.{cut_missed, cut_proper, cut_legal, cut_after}
use Rattle.cut.proofs.TableLaws.{Cut, not_cut_refused, cut_valid}

-- a tick that misses was given a proper state and a legal mask, and has the state after step 4
missed_passed :
    (t : Table) (s : State) (mask : ℕ) → (ticked t s mask).answer ≡ (Ok Tick.Missed)
    → (improper t s ≡ false) × (illegal t s mask ≡ false) × ((ticked t s mask).state ≡ after t s mask)
missed_passed t s mask e =
    by_bool (ltb 0 (refusal t s mask))
    (λ h.
    let r = ticked_refused t s mask (ltb-true 0 (refusal t s mask) h) in
    absurd (let z : ◌≡◌ {A = ℕ} 0 1 = cc (ap (λ x. x.answer) r) in omega arith))
    (λ h.
    let ok = refusal_passed t s mask (ltb-false 0 (refusal t s mask) h) in
    (ok.1, ok.2, ap (λ x. x.state) (ticked_legal t s mask ok.0 ok.1 ok.2)))

module _ (t : Table) (k : ℕ) (fixed : t.policy ≡ 1) (x : Cut t k) where
  -- a tick of the cut, from a proper state and with a legal mask of the whole: it leaves the cut state, and misses where one of the first
  -- k jobs is late
  cut_tick :
      (s : State) (mask : ℕ) → improper t s ≡ false → illegal t s mask ≡ false
      → ticked (cut_table k t) (cut_state k s) (cut_mask k mask)
      ≡ answered (Ok (pick (missed (cut_table k t) (cut_state k (after t s mask))) Tick.Missed Tick.Next)) (cut_state k (after t s mask))
  cut_tick s mask proper legal =
      let e : after (cut_table k t) (cut_state k s) (cut_mask k mask) ≡ cut_state k (after t s mask) = cut_after k t fixed s (low_bits k mask) in
      ticked_legal (cut_table k t) (cut_state k s) (cut_mask k mask) (cut_valid t k x) (cut_proper k t s proper) (cut_legal k t s mask (low_bits k mask) legal)
      ∙ ap (λ u. answered (Ok (pick (missed (cut_table k t) u) Tick.Missed Tick.Next)) u) e

  -- a tick that neither refuses nor misses does neither in the cut
  cut_ticked :
      (s : State) (mask : ℕ) → (ticked t s mask).answer ≡ (Ok Tick.Next)
      → ticked (cut_table k t) (cut_state k s) (cut_mask k mask) ≡ answered (Ok Tick.Next) (cut_state k (ticked t s mask).state)
  cut_ticked s mask next =
      let f = next_passed t s mask next in
      cut_tick s mask f.proper f.legal ∙ rw (cut_missed k t (after t s mask) f.calm, f.state)

  cut_played :
      (s : State) (i : ℕ) (l : List ℕ) (s' : State) → played t s i l ≡ kept s'
      → played (cut_table k t) (cut_state k s) i (cut_list k l) ≡ kept (cut_state k s')
  unfolding played cut_list
  cut_played s i [] s' e = ap (λ r. kept (cut_state k r.state)) e
  cut_played s i (mask ∷ masks) s' e =
      let s₁ = (ticked t s mask).state in
      next_kept (i + 1) s s₁ s' (played t s₁ (i + 1) masks) (ticked t s mask).answer e
      (λ next rest. rw (cut_ticked s mask next) (cut_played s₁ (i + 1) masks s' rest))

  cut_from_start : (l : List ℕ) (s : State) → replayed t l ≡ kept s → played (cut_table k t) start 0 (cut_list k l) ≡ kept (cut_state k s)
  cut_from_start l s e =
      ap (λ u. played (cut_table k t) u 0 (cut_list k l)) (sym (start_cut k))
      ∙ cut_played start 0 l s (replayed_played t l (omega (arith, x.fine)) ∙ e)

  is_played : (l : List ℕ) → replayed (cut_table k t) l ≡ played (cut_table k t) start 0 l
  is_played l = sym (replayed_played (cut_table k t) l (omega (arith, cut_valid t k x)))

  -- one mask more, by what its tick answers
  one_more :
      (s : State) (i mask : ℕ) (u : State) → ticked (cut_table k t) s mask ≡ answered (Ok (pick (missed (cut_table k t) u) Tick.Missed Tick.Next)) u
      → played (cut_table k t) s i (mask ∷ []) ≡ record { answer = Played (pick (missed (cut_table k t) u) (Missed (i + 1)) Kept); state = u }
  unfolding played
  one_more s i mask u e = rw e (by_bool (missed (cut_table k t) u) (λ m. rw m) (λ m. rw m))

-- THEOREM: under P-GFP, for every list and every k from 1 to n: where the whole list is Kept, the cut list is Kept in the cut table, with
-- the cut state
pub cut_kept :
    (t : Table) (k : ℕ) → t.policy ≡ 1 → cut_refusal t k ≡ 0 → (l : List ℕ) (s : State) → replayed t l ≡ kept s
    → replayed (cut_table k t) (cut_list k l) ≡ kept (cut_state k s)
cut_kept t k fixed none l s e =
    let x = not_cut_refused t k none in
    is_played t k fixed x (cut_list k l) ∙ cut_from_start t k fixed x l s e

-- THEOREM: .. and where a list is Kept and one mask more misses, the cut list has the cut state too, and is Missed at that tick or Kept,
-- as one of the first k tasks is late or none
pub cut_last :
    (t : Table) (k : ℕ) → t.policy ≡ 1 → cut_refusal t k ≡ 0 → (l : List ℕ) (s : State) (mask : ℕ) → replayed t l ≡ kept s → (ticked t s mask).answer ≡ (Ok Tick.Missed)
    → replayed (cut_table k t) (cut_list k (l ++ (mask ∷ [])))
    ≡ record {
      answer = Played (pick (missed (cut_table k t) (cut_state k (ticked t s mask).state)) (Missed (length l + 1)) Kept);
      state = cut_state k (ticked t s mask).state;
    }
unfolding cut_list
cut_last t k fixed none l s mask e m =
    let x = not_cut_refused t k none in
    let f = missed_passed t s mask m in
    let z : 0 + length (cut_list k l) ≡ length l = omega (arith, list_length k l) in
    is_played t k fixed x (cut_list k (l ++ (mask ∷ [])))
    ∙ ap (played (cut_table k t) start 0) (list_joined k l (mask ∷ []))
    ∙ played_joined (cut_table k t) start 0 (cut_list k l) (cut_mask k mask ∷ []) (cut_state k s) (cut_from_start t k fixed x l s e)
    ∙ ap (λ n. played (cut_table k t) (cut_state k s) n (cut_mask k mask ∷ [])) z
    ∙ rw f.2 (one_more t k fixed x (cut_state k s) (length l) (cut_mask k mask) (cut_state k (after t s mask)) (cut_tick t k fixed x s mask f.0 f.1))
