-- A Safe table's cut is Safe, with no more states (document 02, §9, and demand 3), under P-GFP and under every other policy. Assumes
-- nothing.
use Prim.Native.Nat.{ℕ, ◌≤◌, ◌<◌}
use mathlib.Core.Path.{◌≡◌, refl, sym, ap, ◌∙◌}
use mathlib.Core.Logic.{◌⊎◌, ⊎_elim}
use mathlib.Core.Logic.◌⊎◌.{inl, inr}
use mathlib.Core.Bool.{true, false}
use mathlib.Core.List.{List}
use lib.ListN.{length}
use Rattle.lists.proofs.Bools.{by_bool}
use Rattle.tasks.specs.Sheet.{sheet_of, sheet_bytes, table_in}
use Rattle.tasks.specs.State.{start, improper}
use Rattle.tasks.specs.Masks.{free_mask}
use Rattle.tasks.specs.Tick.{illegal, after, missed}
use Rattle.tasks.specs.declared.state.State.{State}
use Rattle.tasks.specs.declared.table.Table.{Table}
use Rattle.levels.specs.Verdict.{Answer, Reached, Verdict, SafeIf}
use Rattle.levels.specs.Verdict.Answer.{Unsafe, Safe, NoRoom}
use Rattle.levels.specs.Verdict.Tick.{Next, Missed, Refused}
use Rattle.levels.proofs.Exist.{counts_exist}
use Rattle.levels.proofs.Parts.{part_safe, part_most}
use Rattle.states.specs.System.{step, system}
use Rattle.states.proofs.MaskTest.{submask}
use Rattle.states.proofs.MaskLaws.{submask_legal, legal_submask}
use Rattle.states.proofs.SystemLaws.{step_missed, step_next, legal_or_refused, reached_proper}
use Rattle.slots.specs.Layout.{Layout}
use Rattle.search.specs.Claim.{slots_in, spaces_refusal, sheet_refusal, Figures, verdict_figures, Search, TableSearch, SheetSearch}
use Rattle.search.proofs.ClaimLaws.{sheet_read}
use Rattle.search.proofs.ComputedLaws.{branching}
use Rattle.search.proofs.SafeLaws.{safe_search, table_passed, table_spaces, sheet_passed}
use Rattle.cut.specs.Cut.{cut_table, cut_refusal}
use Rattle.cut.proofs.IdleLaws.{idle_after, idle_misses, proper_idle, whole_proper, low_alone, whole_legal}
use Rattle.cut.proofs.TableLaws.{Cut, not_cut_refused, cut_valid, cut_read}

module _ (t : Table) (k : ℕ) (x : Cut t k) where
  module _ (s : State) (proper : improper (cut_table k t) s ≡ false) (m : ℕ) (small : m < 256) (legal : illegal (cut_table k t) s m ≡ false) where
    whole_sub : submask (free_mask t s) m ≡ true
    whole_sub = legal_submask t s m (whole_legal k t s m legal x.most)

    part_sub : submask (free_mask (cut_table k t) s) m ≡ true
    part_sub = legal_submask (cut_table k t) s m legal

    after_is : after (cut_table k t) s m ≡ after t s m
    after_is = idle_after k t s (proper_idle k t s proper) m (low_alone k t s m legal)

    missed_is : missed (cut_table k t) (after (cut_table k t) s m) ≡ missed t (after t s m)
    missed_is = ap (missed (cut_table k t)) after_is ∙ idle_misses k t s (proper_idle k t s proper) m (low_alone k t s m legal)

    -- a mask that is legal in the cut does in the whole what it does there: the tasks after the kth have no job and get none
    legal_same : step t s m ≡ step (cut_table k t) s m
    legal_same =
        let whole = whole_proper k t s proper x.most in
        by_bool (missed t (after t s m))
        (λ h.
        step_missed t x.fine s whole m small whole_sub h
        ∙ ap Missed (sym after_is)
        ∙ sym (step_missed (cut_table k t) (cut_valid t k x) s proper m small part_sub (missed_is ∙ h)))
        (λ h.
        step_next t x.fine s whole m small whole_sub h
        ∙ ap Next (sym after_is)
        ∙ sym (step_next (cut_table k t) (cut_valid t k x) s proper m small part_sub (missed_is ∙ h)))

  -- LAW: the system of a cut table is a part of the whole's, under every policy: it refuses what releases a task after the kth, and does
  -- the same otherwise
  pub cut_part :
      (s : State) → Reached (system (cut_table k t)) s → (m : ℕ) → (step (cut_table k t) s m ≡ Refused) ⊎ (step t s m ≡ step (cut_table k t) s m)
  cut_part s r m =
      let proper = reached_proper (cut_table k t) (cut_valid t k x) s r in
      ⊎_elim (λ l. inr (legal_same s proper m l.0 (submask_legal (cut_table k t) s m l.1))) (λ e. inl e)
      (legal_or_refused (cut_table k t) (cut_valid t k x) s proper m)

  -- LAW: where no list of a table misses and its states fit K slots, the same is true of its cut
  pub cut_safe : (K : ℕ) → SafeIf (system t) K → SafeIf (system (cut_table k t)) K
  cut_safe K safe = part_safe start (step t) (step (cut_table k t)) cut_part K safe (counts_exist (system (cut_table k t)) (branching (cut_table k t)))

  -- what a search of the cut answers where the whole is Safe
  answer_safe :
      (K : ℕ) {N : ℕ} {trace trace₂ : List ℕ} → Verdict (system t) K (Safe N) trace → (a : Answer) → Verdict (system (cut_table k t)) K a trace₂
      → ((verdict_figures a).kind ≡ 1) × ((verdict_figures a).N ≤ N)
  answer_safe K v (Unsafe L n) w = absurd (w.safe.1 (cut_safe K (v.safe.0 tt)))
  answer_safe K v (Safe n) w = (refl, part_most start (step t) (step (cut_table k t)) cut_part v.report.all w.report.all)
  answer_safe K v (NoRoom n) w = absurd (w.safe.1 (cut_safe K (v.safe.0 tt)))

  -- two searches with as many slots, in any layouts and spaces
  search_safe :
      {l l₂ : Layout} {K q q₂ : ℕ} {w w' v v' trace trace' trace₂ trace₂' : List ℕ} {f g : Figures} → Search l K q t w w' trace trace' f → f.kind ≡ 1
      → Search l₂ K q₂ (cut_table k t) v v' trace₂ trace₂' g → q₂ ≡ 0 → (g.kind ≡ 1) × (g.N ≤ f.N)
  search_safe {l} {l₂} {K} whole safe part passed =
      let y = part.found passed in
      rw y.is (answer_safe K (safe_search whole safe).1.verdict y.answer y.searched.verdict)

-- whether the spaces will do is told by K and the length of the trace space
spaces_same : (K : ℕ) (trace trace₂ : List ℕ) → length trace₂ ≡ length trace → spaces_refusal K trace₂ ≡ spaces_refusal K trace
unfolding spaces_refusal
spaces_same K trace trace₂ e = rw e

-- the two searches that are compared: each has its spaces, with as many slots and a trace space as long
module _ (work work' trace trace' w w' trace₂ trace₂' : List ℕ) (f g : Figures) (same : slots_in w ≡ slots_in work) (long : length trace₂ ≡ length trace)
    (safe : f.kind ≡ 1)
  where
    -- THEOREM: for every table, whatever its policy, and every k from 1 to n: where the search of the table answers Safe with N states,
    -- that of its cut answers Safe with at most N
    pub table_cut_safe :
        (t : Table) (k : ℕ) → cut_refusal t k ≡ 0 → TableSearch t work work' trace trace' f
        → TableSearch (cut_table k t) w w' trace₂ trace₂' g → (g.kind ≡ 1) × (g.N ≤ f.N)
    table_cut_safe t k none whole part =
        let x = not_cut_refused t k none in
        let spaces = (table_passed t (slots_in work) trace (safe_search whole safe).0).1 in
        search_safe t k x whole safe (rw same at part)
        (table_spaces (cut_table k t) (slots_in work) trace₂ (cut_valid t k x) ∙ spaces_same (slots_in work) trace trace₂ long ∙ spaces)

    -- THEOREM: and so for every sheet and the sheet of the cut
    pub sheet_cut_safe :
        (sheet : List ℕ) (k : ℕ) → cut_refusal (table_in (sheet_of sheet)) k ≡ 0 → SheetSearch sheet work work' trace trace' f
        → SheetSearch (sheet_bytes (cut_table k (table_in (sheet_of sheet)))) w w' trace₂ trace₂' g → (g.kind ≡ 1) × (g.N ≤ f.N)
    sheet_cut_safe sheet k none whole part =
        let t = table_in (sheet_of sheet) in
        let x = not_cut_refused t k none in
        let again = cut_read t k x in
        let cut = sheet_bytes (cut_table k t) in
        let spaces = (sheet_passed sheet (slots_in work) trace (safe_search whole safe).0).1 in
        let read : sheet_refusal cut (slots_in work) trace₂ ≡ spaces_refusal (slots_in work) trace₂ = sheet_read (slots_in work) trace₂ cut again in
        search_safe t k x whole safe (rw (same, again) at part)
        (read ∙ spaces_same (slots_in work) trace trace₂ long ∙ spaces)
