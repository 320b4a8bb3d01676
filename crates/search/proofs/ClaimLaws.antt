-- From what the parts of the search leave to the claim: the verdict in the paper's columns, the refusals. Assumes nothing.
use Prim.Native.Nat.{ℕ, zero, suc, ◌*◌, ◌/◌, ◌≤◌, ◌<◌, min}
use mathlib.Core.Path.{◌≡◌, refl, sym, ap, ◌∙◌}
use mathlib.Core.List.{List, [], ◌∷◌, ◌++◌}
use native.Mathlib.Omega.{arith}
use native.Mathlib.Nat.{min-le_left, min-le_right}
use native.Mathlib.Numerals.{add-one}
use lib.ListN.{length, get_or, take, drop, replicate, length-replicate}
use lib.Dec.{eqb}
use borrow.Author.Tests.{eq-eqb, ne_eqb, lt-ltb, le-ltb}
use Rattle.std.specs.Prelude.{Result, Ok, Err}
use Rattle.lists.specs.Lists.{pick}
use Rattle.tasks.specs.Table.{table_fault}
use Rattle.tasks.specs.Refusals.{refusal_number, refusal_at}
use Rattle.tasks.specs.Sheet.{sheet_of, after_reading}
use Rattle.tasks.specs.declared.refusal.Refusal.{Refusal}
use Rattle.tasks.specs.declared.table.Table.{Table}
use Rattle.tasks.proofs.Refusals.{at_number}
use Rattle.levels.specs.Verdict.{Answer, Verdict}
use Rattle.levels.specs.Verdict.Answer.{Unsafe, Safe, NoRoom}
use Rattle.levels.specs.Slots.{count_of, masks_of}
use Rattle.levels.specs.Levels.{trail}
use Rattle.levels.proofs.Trails.{trail_same}
use Rattle.levels.proofs.Slots.{rule_same, stored_same, complete_same}
use Rattle.states.specs.System.{system}
use Rattle.slots.specs.Layout.{Layout, columns, parent_at, mask_at}
use Rattle.slots.specs.Running.{parent_in, Settled}
use Rattle.slots.proofs.LayoutLaws.{stays_join}
use Rattle.slots.proofs.RunningLaws.{marked_start}
use Rattle.search.specs.Claim.{slots_of, slots_in, spaces_refusal, table_refusal, sheet_refusal, Figures, figures, refusal_figures, Replays, Searched, Found, Search}
use Rattle.search.specs.Keeping.{Ran, RanIs, RanBy, written_by, ReportReady, ReportIs, Lent, Fresh, Finishing}
use Rattle.search.specs.declared.run.End.{End}
use Rattle.search.proofs.ReportLaws.{traced_front, traced_rest}
use Rattle.search.specs.declared.run.Verdict as run
use Rattle.states.proofs.SystemLaws.{replay_missed}

-- ---- the replay of the masks given

take_bytes : (n : ℕ) (l : List ℕ) → ((i : ℕ) → get_or l i 0 < 256) → (i : ℕ) → get_or (take n l) i 0 < 256
take_bytes zero l f i = omega arith
take_bytes (suc n) [] f i = omega arith
take_bytes (suc n) (x ∷ xs) f zero = f 0
take_bytes (suc n) (x ∷ xs) f (suc i) = take_bytes n xs (λ j. f (suc j)) i

-- a verdict's masks, where the trace space has bytes, are missed by the replay of `tasks`
verdict_replays :
    (t : Table) → table_fault t ≡ 0 → (trace : List ℕ) → ((i : ℕ) → get_or trace i 0 < 256) → (k : ℕ) (a : Answer) → Verdict (system t) k a (take (masks_of a) trace)
    → Replays t trace a
verdict_replays t valid trace bytes k (Unsafe L n) x = replay_missed t valid (take L trace) (take_bytes L trace bytes) x.report.missed
verdict_replays t valid trace bytes k (Safe n) x = tt
verdict_replays t valid trace bytes k (NoRoom n) x = tt

-- ---- the verdict in the paper's columns

-- the answer that has the figures
unfoldable told : Figures → Result run.Verdict Refusal
told f =
    pick (eqb f.kind 1) (Ok (run.Verdict.Safe f.N))
    (pick (eqb f.kind 2) (Ok (run.Verdict.Unsafe f.L f.N))
    (pick (eqb f.kind 3) (Ok (run.Verdict.NoRoom f.N))
    (Err (refusal_at f.N))))

told_back : (a : Result run.Verdict Refusal) → told (figures a) ≡ a
unfolding told
told_back (Ok (run.Verdict.Safe n)) = refl
told_back (Ok (run.Verdict.Unsafe l n)) = refl
told_back (Ok (run.Verdict.NoRoom n)) = refl
told_back (Err r) = ap Err (at_number r)

-- LAW: an answer is told by its figures
pub figures_is : {a b : Result run.Verdict Refusal} → figures a ≡ figures b → a ≡ b
figures_is {a} {b} e = sym (told_back a) ∙ ap told e ∙ told_back b

-- what the last pass asks
ready_by : (t : Table) (K : ℕ) (ends w w₁ : List ℕ) (end : End) → RanIs t K ends w w₁ end → K ≤ 1000000 → (written_by K end ≤ K) × (written_by K end ≤ get_or ends 244 0)
ready_by t K ends w w₁ (End.Missed i m d n) x few = let a = x.ran.most in let b = x.ran.last in (a, omega arith)
ready_by t K ends w w₁ (End.Closed n) x few = let a = x.most in let b = x.last in (a, omega arith)
ready_by t K ends w w₁ End.Full x few = let b = x.last in (omega arith, omega arith)

pub settle_ready : {t : Table} {K : ℕ} {ends w w₁ : List ℕ} {end : End} → RanBy t K ends w w₁ end → K ≤ 1000000 → (written_by K end ≤ K) × (written_by K end ≤ get_or ends 244 0)
settle_ready {t} {K} {ends} {w} {w₁} {end} x few = ready_by t K ends w w₁ end x.is few

-- what the report asks
report_by :
    (t : Table) (K : ℕ) (ends w w₁ w₂ trace : List ℕ) (end : End) → RanIs t K ends w w₁ end → Settled K ends w₁ w₂ (written_by K end) → K ≤ length trace
    → 21 * K ≤ length w₂ → ReportReady K w₂ trace end
report_by t K ends w w₁ w₂ trace (End.Missed i m d n) x z long fits =
    let b = x.ran.most in
    let e = x.deep in
    record {
      n = n;
      below = x.below;
      most = b;
      fits = fits;
      low = λ j h. rw (z.parents j h) (x.low j h);
      long = omega arith;
    }
report_by t K ends w w₁ w₂ trace (End.Closed n) x z long fits = tt
report_by t K ends w w₁ w₂ trace End.Full x z long fits = tt

pub report_ready :
    {t : Table} {K : ℕ} {ends w w₁ w₂ : List ℕ} {end : End} → RanBy t K ends w w₁ end → Settled K ends w₁ w₂ (written_by K end) → (trace : List ℕ) → K ≤ length trace
    → 21 * K ≤ length w₂ → ReportReady K w₂ trace end
report_ready {t} {K} {ends} {w} {w₁} {w₂} {end} x z trace long fits = report_by t K ends w w₁ w₂ trace end x.is z long fits

module _ (t : Table) (K : ℕ) (ends w w₁ w₂ trace trace' : List ℕ) (valid : table_fault t ≡ 0) (len : length w₁ ≡ length w) where
  -- in the paper's columns, and with its masks at the front of the trace space, it is the claim
  ran_searched :
      {a : Answer} {masks : List ℕ} → Ran t K ends w w₁ a masks → Settled K ends w₁ w₂ (count_of a) → take (masks_of a) trace' ≡ masks
      → drop (masks_of a) trace' ≡ drop (masks_of a) trace → length trace' ≡ length trace → ((i : ℕ) → get_or trace' i 0 < 256)
      → Searched (columns K) K t w w₂ trace trace' a
  ran_searched {a} {masks} r z front rest long bytes =
      let v : Verdict (system t) K a (take (masks_of a) trace') = rw front r.verdict in
      record {
        verdict = v;
        replays = verdict_replays t valid trace' bytes K a v;
        rule = rule_same (system t) r.rule r.some z.states z.parents z.masks;
        most = r.most;
        stored = stored_same (system t) r.stored z.states;
        complete = complete_same (system t) a r.complete z.states;
        zeros = λ i h z b. absurd (omega arith);
        work_rest = stays_join (omega arith) r.rest z.rest;
        work_length = z.len ∙ len;
        trace_rest = rest;
        trace_length = long;
      }

  -- .. and what the report found
  found_by :
      (end : End) (r : run.Verdict) → RanIs t K ends w w₁ end → Settled K ends w₁ w₂ (written_by K end) → ReportIs K w₂ trace trace' end r
      → length trace' ≡ length trace → ((i : ℕ) → get_or trace' i 0 < 256) → Found (columns K) K t w w₂ trace trace' (figures (Ok r))
  found_by (End.Missed i m d n) r x z y long bytes =
      record {
        answer = Unsafe (suc d) n;
        is = ap (λ v. figures (Ok v)) y.0;
        searched = ran_searched x.ran z front rest long bytes;
      }
    where
      same : trail (parent_at (columns K) w₂) (mask_at (columns K) w₂) d i ≡ trail (parent_in K ends w₁) (mask_at (columns K) w₁) d i
      same = trail_same z.parents z.masks x.low d i x.below

      front : take (suc d) trace' ≡ trail (parent_in K ends w₁) (mask_at (columns K) w₁) d i ++ m ∷ []
      front = rw (y.1, ← add-one d) (traced_front K w₂ trace i d m) ∙ ap (λ (l : List ℕ). l ++ m ∷ []) same

      rest : drop (suc d) trace' ≡ drop (suc d) trace
      rest = rw (y.1, ← add-one d) (traced_rest K w₂ trace i d m)
  found_by (End.Closed n) r x z y long bytes = record { answer = Safe n; is = ap (λ v. figures (Ok v)) y.0; searched = ran_searched x z refl (ap (drop 0) y.1) long bytes }
  found_by End.Full r x z y long bytes = record { answer = NoRoom K; is = ap (λ v. figures (Ok v)) y.0; searched = ran_searched x z refl (ap (drop 0) y.1) long bytes }

pub ran_found :
    {t : Table} {K : ℕ} {ends w w₁ w₂ trace trace' : List ℕ} {end : End} → table_fault t ≡ 0 → length w₁ ≡ length w → RanBy t K ends w w₁ end
    → Settled K ends w₁ w₂ (written_by K end) → (r : run.Verdict) → ReportIs K w₂ trace trace' end r → length trace' ≡ length trace
    → ((i : ℕ) → get_or trace' i 0 < 256) → Found (columns K) K t w w₂ trace trace' (figures (Ok r))
ran_found {t} {K} {ends} {w} {w₁} {w₂} {trace} {trace'} {end} valid len x z r y long bytes =
    found_by t K ends w w₁ w₂ trace trace' valid len end r x.is z y long bytes

-- ---- K and the refusals

module _ (w : List ℕ) where
  pub slots_fit : 21 * slots_in w ≤ length w
  unfolding slots_of
  slots_fit = let a : min (length w / 21) 1000000 ≤ length w / 21 = min-le_left _ _ in omega arith

  pub slots_few : slots_in w ≤ 1000000
  unfolding slots_of
  slots_few = min-le_right _ _

  pub slots_is : {k : ℕ} → k ≡ min (length w / 21) 1000000 → k ≡ slots_in w
  unfolding slots_of
  slots_is e = e

module _ (K : ℕ) (trace : List ℕ) where
  pub refusal_nine : K ≡ 0 → spaces_refusal K trace ≡ 9
  unfolding spaces_refusal
  refusal_nine e = rw (eq-eqb K 0 e)

  pub refusal_ten : (K ≡ 0 → ⊥) → length trace < K → spaces_refusal K trace ≡ 10
  unfolding spaces_refusal
  refusal_ten e h = rw (ne_eqb K 0 e, lt-ltb (length trace) K h)

  pub refusal_zero : (K ≡ 0 → ⊥) → K ≤ length trace → spaces_refusal K trace ≡ 0
  unfolding spaces_refusal
  refusal_zero e h = rw (ne_eqb K 0 e, le-ltb (length trace) K h)

  module _ (t : Table) where
    pub table_fault_lem : 0 < table_fault t → table_refusal t K trace ≡ table_fault t
    unfolding table_refusal
    table_fault_lem h = rw (lt-ltb 0 (table_fault t) h)

    pub table_valid : table_fault t ≤ 0 → table_refusal t K trace ≡ spaces_refusal K trace
    unfolding table_refusal
    table_valid h = rw (le-ltb 0 (table_fault t) h)

  module _ (sheet : List ℕ) where
    pub sheet_fault : {r : Refusal} → sheet_of sheet ≡ Err r → sheet_refusal sheet K trace ≡ refusal_number r
    unfolding sheet_refusal
    sheet_fault e = ap (λ a. after_reading a (spaces_refusal K trace)) e

    pub sheet_read : {t : Table} → sheet_of sheet ≡ Ok t → sheet_refusal sheet K trace ≡ spaces_refusal K trace
    unfolding sheet_refusal
    sheet_read e = ap (λ a. after_reading a (spaces_refusal K trace)) e

-- a search that is refused, and one that is not
pub refused_search : {l : Layout} {K q r : ℕ} {t : Table} {w trace : List ℕ} → q ≡ r → 0 < r → Search l K q t w w trace trace (refusal_figures r)
refused_search e h = record { refused = λ l. (rw e, refl, refl); found = λ z. absurd (omega arith) }

pub found_search :
    {l : Layout} {K q : ℕ} {t : Table} {w w' trace trace' : List ℕ} {f : Figures} → q ≡ 0 → Found l K t w w' trace trace' f
    → Search l K q t w w' trace trace' f
found_search e x = record { refused = λ l. absurd (omega arith); found = λ z. x }

-- ---- heads and ends at first

-- n times v
pub all_same : (n v b : ℕ) → b < n → ◌≡◌ {A = ℕ} (get_or (replicate n v) b 0) v
all_same zero v b h = absurd (let z : b < 0 = h in omega arith)
all_same (suc n) v zero h = refl
all_same (suc n) v (suc b) h = all_same n v b (omega arith)

zeros : (n b : ℕ) → ◌≡◌ {A = ℕ} (get_or (replicate n 0) b 0) 0
zeros zero b = refl
zeros (suc n) zero = refl
zeros (suc n) (suc b) = zeros n b

-- a valid table's spaces, with heads of no chain and no slot filled yet
pub lent_fresh : {t : Table} {w trace heads ends : List ℕ} {K n : ℕ} → Lent t w trace K → heads ≡ replicate n 0 → 0 < n → ends ≡ replicate 245 1000000 → Fresh t K ends w heads
lent_fresh {t} {w} {trace} {heads} {ends} {K} {n} x h some e =
    record {
      valid = x.valid;
      some = x.some;
      few = (let a = x.is in omega (arith, slots_few w));
      fits = (let a = x.is in omega (arith, slots_fit w));
      buckets = rw h (omega (arith, length-replicate {A = ℕ} n 0));
      empty = λ b. rw h (zeros n b);
      marked = rw e (marked_start (length-replicate {A = ℕ} 245 1000000) (λ b l. all_same 245 1000000 b l));
    }

-- the levels have ended
pub finishing : {t : Table} {K : ℕ} {ends w w₁ trace : List ℕ} {end : End} → Lent t w trace K → length ends ≡ 245 → length w₁ ≡ length w → RanBy t K ends w w₁ end → Finishing K ends w₁ trace end
finishing {t} {K} {ends} {w} {w₁} {trace} {end} x long len ran =
    let is = x.is in
    let ready = settle_ready ran (omega (arith, slots_few w)) in
    let fits : 21 * K ≤ length w₁ = omega (arith, slots_fit w) in
    record {
      len = long;
      most = ready.0;
      last = ready.1;
      fits = fits;
      ready = λ w' z. report_ready ran z trace x.long (omega (arith, z.len));
    }
