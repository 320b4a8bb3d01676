-- A list with a mask that is refused has the totals of the masks before it. Assumes nothing.
use Prim.Native.Nat.{ℕ, suc, ◌+◌, ◌-◌, ◌≤◌, ◌<◌}
use mathlib.Core.Path.{◌≡◌, sym, ap, ◌∙◌}
use mathlib.Core.Bool.{Bool}
use mathlib.Core.List.{List, [], ◌∷◌}
use native.Mathlib.Omega.{arith}
use lib.Dec.{ltb}
use lib.ListN.{take}
use borrow.Author.Tests.{ltb-true, ltb-false}
use Rattle.lists.specs.Lists.{eight, pick}
use Rattle.lists.proofs.Bools.{by_bool}
use Rattle.lists.proofs.Fill.{eight_same}
use Rattle.tasks.specs.Table.{table_fault}
use Rattle.tasks.specs.State.{start}
use Rattle.tasks.specs.Tick.{after, missed, refusal}
use Rattle.tasks.specs.Replay.{played, replayed}
use Rattle.tasks.specs.Refusals.{refusal_at}
use Rattle.tasks.specs.declared.refusal.Refusal.{Refusal}
use Rattle.tasks.specs.declared.state.State.{State}
use Rattle.tasks.specs.declared.table.Table.{Table}
use Rattle.tasks.specs.declared.play.Outcome.TheVariants.{Kept}
use Rattle.tasks.specs.declared.play.ReplayAnswer.TheVariants.{Played, Refused}
use Rattle.tasks.proofs.Answered.{ticked_refused, ticked_missed, ticked_next}
use Rattle.tasks.proofs.Played.{replayed_played}
use Rattle.service.specs.Totals.{count_ticks, releases, runs_in, release_count, ticks_run, account_from, account_of}

-- tick n is refused: what is known of the masks before it, played from state s after k ticks
record Front (t : Table) (s : State) (k : ℕ) (l : List ℕ) (n : ℕ) : Type 0 where
  later : k < n
  kept : played t s k (take (n - (k + 1)) l) ≡ record { answer = Played Kept; state = (played t s k l).state }
  counts : (test : State → ℕ → Bool) → count_ticks t test s (take (n - (k + 1)) l) ≡ count_ticks t test s l

module _ (t : Table) where
  front : (s : State) (k : ℕ) (l : List ℕ) (r : Refusal) (n : ℕ) → (played t s k l).answer ≡ Refused r n → Front t s k l n
  unfolding played count_ticks
  front s k [] r n e = absurd (let z : ◌≡◌ {A = ℕ} 0 1 = cc in omega arith)
  front s k (mask ∷ masks) r n e =
      by_bool (ltb 0 (refusal t s mask))
      (λ b.
      let now = sym (ticked_refused t s mask (ltb-true 0 (refusal t s mask) b)) in
      let q : Refused (refusal_at (refusal t s mask)) (k + 1) ≡ Refused r n = rw now at e in
      let tick : n ≡ k + 1 = cc in
      let none : n - (k + 1) ≡ 0 = omega arith in
      record { later = omega arith; kept = rw (none, now); counts = λ test. rw (none, now) })
      (λ b.
      let passed = ltb-false 0 (refusal t s mask) b in
      by_bool (missed t (after t s mask))
      (λ m. absurd (let q = rw (sym (ticked_missed t s mask passed m)) at e in let z : ◌≡◌ {A = ℕ} 0 1 = cc in omega arith))
      (λ m.
      let now = sym (ticked_next t s mask passed m) in
      let f = front (after t s mask) (k + 1) masks r n (rw now at e) in
      let less : n - (k + 1) ≡ suc (n - (k + 1 + 1)) = omega (arith, f.later) in
      record { later = omega (arith, f.later); kept = rw (less, now) f.kept; counts = λ test. rw (less, now) (ap (λ c. pick (test s mask) 1 0 + c) (f.counts test)) }))

-- LAW: where a tick is refused, the masks before it are kept, with the state and the totals that the refusal returns
pub refused_front :
    (t : Table) (l : List ℕ) (r : Refusal) (n : ℕ) → table_fault t ≡ 0 → (replayed t l).answer ≡ Refused r n
    → account_of t (take (n - 1) l) ≡ account_from (record { answer = Played Kept; state = (replayed t l).state }) (eight (release_count t l)) (eight (ticks_run t l))
unfolding account_of release_count ticks_run
refused_front t l r n valid e =
    let none : table_fault t ≤ 0 = omega arith in
    let whole = replayed_played t l none in
    let f = front t start 0 l r n (ap (λ a. a.answer) whole ∙ e) in
    let less : n - (0 + 1) ≡ n - 1 = omega arith in
    let counts : (test : State → ℕ → Bool) → count_ticks t test start (take (n - 1) l) ≡ count_ticks t test start l = λ test. rw less at (f.counts test) in
    let kept = rw (less, whole) at f.kept in
    λ x.
    account_from ((sym (replayed_played t (take (n - 1) l) none) ∙ kept) x)
    (eight_same (release_count t (take (n - 1) l)) (release_count t l) (λ i h. counts (releases i)) x)
    (eight_same (ticks_run t (take (n - 1) l)) (ticks_run t l) (λ i h. counts (runs_in t i)) x)
