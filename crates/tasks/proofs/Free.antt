-- The mask of all tasks that may be released, and the two laws that a search cites of a table made ready: its ticks and its mask are the
-- model's. Assumes nothing.
use Prim.Native.Nat.{ℕ, ◌/◌, ◌<◌}
use mathlib.Core.Path.{◌≡◌, sym, ap, ◌∙◌}
use mathlib.Core.List.{List}
use mathlib.Core.Bool.{Bool, true, false, ◌&&◌}
use native.Mathlib.Omega.{arith}
use native.Mathlib.Decide.{ℕ_discrete}
use lib.Dec.{eqb, ltb}
use lib.ListN.{get_or}
use borrow.Author.Tests.{eqb-true, eq-eqb, ne_eqb, ltb-true, lt-ltb, le-ltb}
use Rattle.lists.specs.Lists.{pick}
use Rattle.tasks.specs.Table.{table_fault}
use Rattle.tasks.specs.State.{improper}
use Rattle.tasks.specs.Tick.{bit, after}
use Rattle.tasks.specs.Masks.{releasable, free_mask}
use Rattle.tasks.specs.Words.{state_of}
use Rattle.tasks.specs.Ticker.{ticker_of, prepared_by, ticked_by, releasable_in, free_by}
use Rattle.tasks.specs.declared.state.State.{State}
use Rattle.tasks.specs.declared.table.Table.{Table}
use Rattle.tasks.specs.declared.ticker.Prepared.{Prepared}
use Rattle.tasks.specs.declared.ticker.Ticker.{Ticker}
use Rattle.lists.proofs.Bools.{and_left, and_right, both}
use Rattle.lists.proofs.Turns.{bits_less}
use Rattle.lists.proofs.Digits.{bits_at, bits_same}
use Rattle.lists.proofs.Fill.{eight_at}
use Rattle.tasks.proofs.InWords.{gap_word}
use Rattle.tasks.proofs.More.{Full}
use Rattle.tasks.proofs.InWords.{WordList}
use Rattle.tasks.proofs.Ticking.{ticker_after}

-- ---- the tasks that may be released

module _ (t : Table) (s : State) where
  pub free_small : free_mask t s < 256
  unfolding free_mask
  free_small = bits_less (releasable t s) 8

  -- LAW: bit i of the mask says whether task i may be released
  pub free_bit : (i : ℕ) → i < 8 → bit (free_mask t s) i ≡ releasable t s i
  unfolding free_mask
  free_bit = bits_at (releasable t s) 8

  -- LAW: the mask has a bit for every task that may be released, and no other
  pub free_full : Full t s (free_mask t s)
  unfolding releasable
  free_full = free_bit

  pub may : (i : ℕ) → (i < t.n) × (get_or s.p i 0 ≡ 0) → releasable t s i ≡ true
  unfolding releasable
  may i h = both (lt-ltb i t.n h.0) (eq-eqb (get_or s.p i 0) 0 h.1)

  pub may_be : (i : ℕ) → releasable t s i ≡ true → (i < t.n) × (get_or s.p i 0 ≡ 0)
  unfolding releasable
  may_be i e =
      (ltb-true i t.n (and_left (ltb i t.n) (eqb (get_or s.p i 0) 0) e), eqb-true (get_or s.p i 0) 0 (and_right (ltb i t.n) (eqb (get_or s.p i 0) 0) e))

-- ---- the mask of the words

-- a word is below its limit where its task is one of the table's and its p is 0
below_limit : (b : Bool) (w : ℕ) → ltb w (pick b 256 0) ≡ b && eqb (w / 256) 0
below_limit true w =
    elim (ℕ_discrete (w / 256) 0) [
      | yes q ↦ lt-ltb w 256 (omega arith) ∙ sym (eq-eqb (w / 256) 0 q)
      | no q ↦ le-ltb w 256 (omega arith) ∙ sym (ne_eqb (w / 256) 0 q)
    ]
below_limit false w = le-ltb w 0 (omega arith)

limit_releasable : (t : Table) (v : List ℕ) (i : ℕ) → i < 8 → releasable_in (ticker_of t) v i ≡ releasable t (state_of v) i
unfolding releasable_in ticker_of releasable
limit_releasable t v i h =
    ap (ltb (get_or v i 0)) (eight_at 0 (λ i. pick (ltb i t.n) 256 0) i h)
    ∙ below_limit (ltb i t.n) (get_or v i 0)
    ∙ ap (λ p. ltb i t.n && eqb p 0) (sym (gap_word v i h))

-- LAW: the ticker's mask is that of the state in the words
pub free_by_lem : (t : Table) (v : List ℕ) → free_by (ticker_of t) v ≡ free_mask t (state_of v)
unfolding free_by free_mask
free_by_lem t v = bits_same (releasable_in (ticker_of t) v) (releasable t (state_of v)) 8 (limit_releasable t v)

-- ---- what a search cites

module _ (t : Table) (v : List ℕ) {ticker : Ticker} (e : ticker ≡ ticker_of t) where
  -- LAW: for a ticker of a valid table t and a proper state s made ready, the words after a mask are those of `after t s mask`
  pub ticks :
      {state : Prepared} → state ≡ prepared_by ticker v → table_fault t ≡ 0 → improper t (state_of v) ≡ false → WordList v → (mask : ℕ)
      → state_of (ticked_by ticker state mask) ≡ after t (state_of v) mask
  ticks p valid proper words mask = rw (p, e) (ticker_after t v mask valid proper words)

  -- LAW: and its mask is that of all tasks that may be released
  pub frees : {free : ℕ} → free ≡ free_by ticker v → free ≡ free_mask t (state_of v)
  frees f = f ∙ rw e (free_by_lem t v)
