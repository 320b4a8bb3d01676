-- The figures of a search have room beside each other. Assumes nothing.
use Prim.Native.Nat.{ℕ, ◌≤◌}
use mathlib.Core.List.{List}
use native.Mathlib.Omega.{arith}
use native.Mathlib.Decide.{dec_lt}
use Rattle.tasks.specs.declared.table.Table.{Table}
use Rattle.levels.specs.Verdict.{Answer}
use Rattle.levels.specs.Verdict.Answer.{Unsafe, Safe, NoRoom}
use Rattle.levels.proofs.Shortest.{unsafe_room}
use Rattle.states.specs.System.{system}
use Rattle.slots.specs.Layout.{Layout}
use Rattle.search.specs.Claim.{Figures, verdict_figures, Searched, Search}
use Rattle.ronchhek.specs.Verdicts.{Low}

-- a verdict's figures are at most K
low_verdict : {l : Layout} {K : ℕ} {t : Table} {w w' trace trace' : List ℕ} → K ≤ 1000000 → (v : Answer) → Searched l K t w w' trace trace' v → Low (verdict_figures v)
low_verdict {l} {K} {t} few (Unsafe L n) x = record { L = (let a = unsafe_room (system t) x.verdict in omega arith); N = λ h. (let a = x.most in omega arith) }
low_verdict few (Safe n) x = record { L = omega arith; N = λ h. (let a = x.most in omega arith) }
low_verdict few (NoRoom n) x = record { L = omega arith; N = λ h. (let a = x.most in omega arith) }

pub search_low : {l : Layout} {K q : ℕ} {t : Table} {w w' trace trace' : List ℕ} {f : Figures} → K ≤ 1000000 → Search l K q t w w' trace trace' f → Low f
search_low {l} {K} {q} few x =
    elim (dec_lt 0 q) [
      | yes h ↦ rw (x.refused h).0 (record { L = omega arith; N = λ l. absurd (omega arith) })
      | no h ↦ (let y = x.found (omega arith) in rw y.is (low_verdict few y.answer y.searched))
    ]
