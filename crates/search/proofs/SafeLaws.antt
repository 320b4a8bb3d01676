-- What a search that answers Safe was given. Assumes nothing.
use Prim.Native.Nat.{ℕ}
use mathlib.Core.Path.{◌≡◌, refl, sym, ap}
use mathlib.Core.List.{List}
use native.Mathlib.Omega.{arith}
use native.Mathlib.Decide.{dec_lt}
use lib.Dec.{ltb}
use borrow.Author.Tests.{ltb-true, ltb-false}
use Rattle.std.specs.Prelude.{Result, Ok, Err}
use Rattle.lists.proofs.Bools.{by_bool}
use Rattle.tasks.specs.Table.{table_fault}
use Rattle.tasks.specs.Sheet.{sheet_of, table_in, after_reading}
use Rattle.tasks.specs.declared.refusal.Refusal.{Refusal}
use Rattle.tasks.specs.declared.table.Table.{Table}
use Rattle.tasks.proofs.Refusals.{refusal_some}
use Rattle.levels.specs.Verdict.{Answer}
use Rattle.levels.specs.Verdict.Answer.{Unsafe, Safe, NoRoom}
use Rattle.slots.specs.Layout.{Layout}
use Rattle.search.specs.Claim.{spaces_refusal, table_refusal, sheet_refusal, Figures, verdict_figures, Searched, Search}

-- the figures of kind 1 are those of Safe
pub safe_figures : (a : Answer) {f : Figures} → f ≡ verdict_figures a → f.kind ≡ 1 → a ≡ Safe f.N
safe_figures (Unsafe l n) e k = absurd (let z = ap (λ f. f.kind) e in omega arith)
safe_figures (Safe n) e k = ap Safe (ap (λ f. f.N) (sym e))
safe_figures (NoRoom n) e k = absurd (let z = ap (λ f. f.kind) e in omega arith)

-- a search that answers Safe was not refused
pub safe_search :
    {l : Layout} {K q : ℕ} {t : Table} {work work' trace trace' : List ℕ} {f : Figures} → Search l K q t work work' trace trace' f → f.kind ≡ 1
    → (q ≡ 0) × Searched l K t work work' trace trace' (Safe f.N)
safe_search {l} {K} {q} x k =
    elim (dec_lt 0 q) [
      | yes h ↦ absurd (let z = ap (λ f. f.kind) (x.refused h).0 in omega arith)
      | no h ↦
          let y = x.found (omega arith) in
          (omega arith, rw (safe_figures y.answer y.is k) at y.searched)
    ]

-- a search of a table that was not refused had a valid table, and spaces that will do
pub table_passed : (t : Table) (K : ℕ) (trace : List ℕ) → table_refusal t K trace ≡ 0 → (table_fault t ≡ 0) × (spaces_refusal K trace ≡ 0)
unfolding table_refusal
table_passed t K trace z =
    by_bool (ltb 0 (table_fault t))
    (λ e. absurd (omega (arith, ltb-true 0 (table_fault t) e, rw e at z)))
    (λ e. (omega (arith, ltb-false 0 (table_fault t) e), rw e at z))

pub table_spaces : (t : Table) (K : ℕ) (trace : List ℕ) → table_fault t ≡ 0 → table_refusal t K trace ≡ spaces_refusal K trace
unfolding table_refusal
table_spaces t K trace valid = rw valid

-- a search of a sheet that was not refused had a sheet that is accepted, and such spaces
reading_passed : (rest : ℕ) (a : Result Table Refusal) → after_reading a rest ≡ 0 → (a ≡ Ok (table_in a)) × (rest ≡ 0)
reading_passed rest (Ok t) z = (refl, z)
reading_passed rest (Err r) z = absurd (omega (arith, refusal_some r))

pub sheet_passed :
    (sheet : List ℕ) (K : ℕ) (trace : List ℕ) → sheet_refusal sheet K trace ≡ 0 → (sheet_of sheet ≡ Ok (table_in (sheet_of sheet))) × (spaces_refusal K trace ≡ 0)
unfolding sheet_refusal
sheet_passed sheet K trace z = reading_passed (spaces_refusal K trace) (sheet_of sheet) z
