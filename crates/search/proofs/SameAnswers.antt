-- Answer and count do not depend on the layout (document 02, §6: "for the same K answer and count are those of the old layout"). Assumes
-- nothing.
use Prim.Native.Nat.{ℕ}
use mathlib.Core.Path.{◌≡◌, sym, ap, ◌∙◌}
use mathlib.Core.List.{List}
use native.Mathlib.Omega.{arith}
use native.Mathlib.Decide.{dec_lt}
use lib.ListN.{length}
use Rattle.tasks.specs.declared.table.Table.{Table}
use Rattle.levels.proofs.Verdicts.{verdict_unique}
use Rattle.states.specs.System.{system}
use Rattle.slots.specs.Layout.{Layout}
use Rattle.search.specs.Claim.{slots_in, spaces_refusal, table_refusal, sheet_refusal, Figures, verdict_figures, Found, Search, TableSearchIn, SheetSearchIn, TableSearch, SheetSearch}
use Rattle.search.specs.Rows.{rows_in, TableSearchInRows, SheetSearchInRows}

-- two searches with the same number of slots, each in a layout and in spaces of its own; what these held does not matter
module _ {l l₂ : Layout} {K : ℕ} {t : Table} {w w' v v' trace trace' trace₂ trace₂' : List ℕ} {f g : Figures} where
  -- the verdict fixes kind, L and count
  found_same : Found l K t w w' trace trace' f → Found l₂ K t v v' trace₂ trace₂' g → f ≡ g
  found_same x y =
      x.is ∙ ap verdict_figures (verdict_unique (system t) x.answer y.answer _ _ x.searched.verdict y.searched.verdict) ∙ sym y.is

  search_same : {q : ℕ} → Search l K q t w w' trace trace' f → Search l₂ K q t v v' trace₂ trace₂' g → f ≡ g
  search_same {q} x y =
      elim (dec_lt 0 q) [
        | yes h ↦ (x.refused h).0 ∙ sym (y.refused h).0
        | no h ↦ found_same (x.found (omega arith)) (y.found (omega arith))
      ]

-- the refusals of the spaces depend on K and on the length of the trace space
spaces_same : (K : ℕ) (trace trace₂ : List ℕ) → length trace ≡ length trace₂ → spaces_refusal K trace ≡ spaces_refusal K trace₂
unfolding spaces_refusal
spaces_same K trace trace₂ e = rw e

table_refusal_lem : (t : Table) (K : ℕ) (trace trace₂ : List ℕ) → length trace ≡ length trace₂ → table_refusal t K trace ≡ table_refusal t K trace₂
unfolding table_refusal
table_refusal_lem t K trace trace₂ e = rw (spaces_same K trace trace₂ e)

sheet_refusal_lem : (sheet : List ℕ) (K : ℕ) (trace trace₂ : List ℕ) → length trace ≡ length trace₂ → sheet_refusal sheet K trace ≡ sheet_refusal sheet K trace₂
unfolding sheet_refusal
sheet_refusal_lem sheet K trace trace₂ e = rw (spaces_same K trace trace₂ e)

module _ (l l₂ : Layout) (K : ℕ) (w w' v v' trace trace' trace₂ trace₂' : List ℕ) (f g : Figures) (long : length trace ≡ length trace₂) where
  -- LAW: for any two layouts, and trace spaces of the same length
  pub table_layouts : (t : Table) → TableSearchIn l K t w w' trace trace' f → TableSearchIn l₂ K t v v' trace₂ trace₂' g → f ≡ g
  table_layouts t x y = search_same (rw (table_refusal_lem t K trace trace₂ long) at x) y

  pub sheet_layouts : (sheet : List ℕ) → SheetSearchIn l K sheet w w' trace trace' f → SheetSearchIn l₂ K sheet v v' trace₂ trace₂' g → f ≡ g
  sheet_layouts sheet x y = search_same (rw (sheet_refusal_lem sheet K trace trace₂ long) at x) y

-- LAW: for every table: what a search in columns answers is what one in rows answers, for the same K, whatever the four spaces held
pub table_rows :
    (t : Table) (w w' v v' trace trace' trace₂ trace₂' : List ℕ) (f g : Figures) → slots_in w ≡ rows_in v → length trace ≡ length trace₂
    → TableSearch t w w' trace trace' f → TableSearchInRows t v v' trace₂ trace₂' g → f ≡ g
table_rows t w w' v v' trace trace' trace₂ trace₂' f g same long x y =
    table_layouts _ _ (rows_in v) w w' v v' trace trace' trace₂ trace₂' f g long t (rw same at x) y

-- LAW: for every sheet
pub sheet_rows :
    (sheet w w' v v' trace trace' trace₂ trace₂' : List ℕ) (f g : Figures) → slots_in w ≡ rows_in v → length trace ≡ length trace₂
    → SheetSearch sheet w w' trace trace' f → SheetSearchInRows sheet v v' trace₂ trace₂' g → f ≡ g
sheet_rows sheet w w' v v' trace trace' trace₂ trace₂' f g same long x y =
    sheet_layouts _ _ (rows_in v) w w' v v' trace trace' trace₂ trace₂' f g long sheet (rw same at x) y
