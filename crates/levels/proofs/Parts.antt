-- A part of a system: it refuses some masks, and any other does what it does in the whole. Where no list of the whole misses none of the
-- part does, and the part has no more states. Assumes nothing.
use mathlib.Core.Path.{◌≡◌, ◌∙◌}
use mathlib.Core.Logic.{◌⊎◌, ⊎_elim}
use mathlib.Core.List.{List}
use Prim.Native.Nat.{ℕ, suc, ◌≤◌}
use native.Mathlib.Omega.{arith}
use Rattle.levels.specs.Verdict.{Tick, System, Misses, Within, Reached, Numbered, Counts, SafeIf}
use Rattle.levels.specs.Verdict.Tick.{Next, Refused}
use Rattle.levels.proofs.Replay.{reach_ind, miss_ind, within_start, within_next, within_more, reached, reached_calm}
use Rattle.levels.proofs.Numbered.{no_more}

module _ {S M : Type 0} (start : S) (whole part : S → M → Tick S) where
  abbrev Whole : System
  Whole = record { State = S; Mask = M; start = start; step = whole }

  abbrev Part : System
  Part = record { State = S; Mask = M; start = start; step = part }

  module _ (same : (s : S) → Reached Part s → (m : M) → (part s m ≡ Refused) ⊎ (whole s m ≡ part s m)) where
    within_whole_next : (k : ℕ) (s : S) (m : M) (u : S) → Within Part k s × Within Whole k s → part s m ≡ Next u → Within Part (suc k) u × Within Whole (suc k) u
    within_whole_next k s m u w e =
        ⊎_elim
        (λ r. absurd (let z : ◌≡◌ {A = ℕ} 0 1 = cc in omega arith))
        (λ q. (within_next Part w.0 m e, within_next Whole w.1 m (q ∙ e)))
        (same s (reached Part w.0) m)

    both_start : Within Part 0 start × Within Whole 0 start
    both_start = (within_start Part 0, within_start Whole 0)

    -- LAW: every state of the part is one of the whole, reached in as many ticks
    pub part_within : (d : ℕ) (s : S) → Within Part d s → Within Whole d s
    part_within d s w =
        within_more Whole w.short
        (reach_ind Part (λ k u. Within Part k u × Within Whole k u) within_whole_next both_start w.masks s w.reaches).1

    pub part_reached : (s : S) → Reached Part s → Reached Whole s
    part_reached s r =
        reached Whole (reach_ind Part (λ k u. Within Part k u × Within Whole k u) within_whole_next both_start r.masks s r.reaches).1

    -- LAW: where no list of the whole misses, none of the part does
    pub part_none : ((l : List M) → Misses Whole l → ⊥) → (l : List M) → Misses Part l → ⊥
    part_none none l w =
        let b = miss_ind Part (λ k u. Within Part k u × Within Whole k u) within_whole_next both_start l w in
        let e = b.missed in
        ⊎_elim
        (λ r. let z : ◌≡◌ {A = ℕ} 0 1 = cc in omega arith)
        (λ q. reached_calm Whole none (reached Whole b.holds.1) b.mask b.next (q ∙ e))
        (same b.state (reached Part b.holds.0) b.mask)

    -- LAW: the part has no more states
    pub part_most : {k n : ℕ} → Numbered (Reached Whole) k → Numbered (Reached Part) n → n ≤ k
    part_most {k} {n} all num = no_more all num.at n num.distinct (λ i h. part_reached (num.at i) (num.each i h))

    -- LAW: with as many slots the part is Safe where the whole is
    pub part_safe : (K : ℕ) → SafeIf Whole K → ((d : ℕ) → (n : ℕ) × Counts Part d n) → SafeIf Part K
    part_safe K safe exist =
        record {
          none = part_none safe.none;
          room = λ d.
              let x = exist d in
              let y = safe.room d in
              let most = no_more y.counts x.1.at x.0 x.1.distinct (λ i h. part_within d (x.1.at i) (x.1.each i h)) in
              record { count = x.0; counts = x.1; most = omega (arith, y.most) };
        }
