-- The laws of the trace's writer. Assumes nothing.
use mathlib.Core.Path.{◌≡◌, sym, ◌∙◌}
use mathlib.Core.List.{List, [], ◌∷◌, ◌++◌, append_assoc}
use Prim.Native.Nat.{ℕ, zero, suc, ◌+◌, ◌-◌, ◌≤◌, ◌<◌}
use native.Mathlib.Omega.{arith}
use native.Mathlib.Numerals.{add-one}
use lib.ListN.{length, take, drop, set, length-set, length-append}
use lib.Seq.{drop-cons, drop-set-lt, get_or-set_same, take_at, drop_at}
use Rattle.levels.specs.Levels.{trail}
use Rattle.levels.proofs.Trails.{trail_length}
use Rattle.slots.specs.Layout.{columns, parent_at, mask_at}
use Rattle.search.specs.Keeping.{traced}

-- a store at the front of what is dropped
drop_set : (l : List ℕ) (k v : ℕ) → k < length l → drop k (set l k v) ≡ v ∷ drop (k + 1) l
drop_set l k v h =
    drop-cons (set l k v) k 0 (rw length-set h)
    ∙ (rw (add-one, get_or-set_same l k v 0 h, drop-set-lt (suc k) l k v (omega arith)))

module _ (K : ℕ) (w : List ℕ) where
  -- one turn of the writer: the masks that are left to write, and then what stands in the space
  pub trace_turn :
      (l whole : List ℕ) (k j : ℕ) → 0 < k → k ≤ length l → whole ≡ trail (parent_at (columns K) w) (mask_at (columns K) w) k j ++ drop k l
      → whole ≡ trail (parent_at (columns K) w) (mask_at (columns K) w) (k - 1) (parent_at (columns K) w j) ++ drop (k - 1) (set l (k - 1) (mask_at (columns K) w j))
  trace_turn l whole zero j h b e = absurd (omega arith)
  trace_turn l whole (suc k) j h b e =
      let z : suc k - 1 ≡ k = omega arith in
      e ∙ append_assoc (trail (parent_at (columns K) w) (mask_at (columns K) w) k (parent_at (columns K) w j)) (mask_at (columns K) w j ∷ []) (drop (suc k) l)
      ∙ (rw (z, drop_set l k (mask_at (columns K) w j) (omega arith), add-one))

  -- it ends with nothing left to write
  pub trace_end :
      (trace trace₀ trace' : List ℕ) (i d m j : ℕ) → d < length trace → trace₀ ≡ set trace d m
      → trail (parent_at (columns K) w) (mask_at (columns K) w) d i ++ drop d trace₀ ≡ trail (parent_at (columns K) w) (mask_at (columns K) w) 0 j ++ drop 0 trace' → trace' ≡ traced K w trace i d m
  unfolding traced
  trace_end trace trace₀ trace' i d m j h s e = sym e ∙ (rw (s, drop_set trace d m h))

  module _ (trace : List ℕ) (i d m : ℕ) where
    abbrev path : List ℕ
    path = trail (parent_at (columns K) w) (mask_at (columns K) w) d i

    long : length (path ++ m ∷ []) ≡ d + 1
    long = length-append path (m ∷ []) ∙ (let l = trail_length (parent_at (columns K) w) (mask_at (columns K) w) d i in omega arith)

    split : traced K w trace i d m ≡ (path ++ m ∷ []) ++ drop (d + 1) trace
    unfolding traced
    split = sym (append_assoc path (m ∷ []) (drop (d + 1) trace))

    -- the front of the space is the list, and the rest stays
    pub traced_front : take (d + 1) (traced K w trace i d m) ≡ trail (parent_at (columns K) w) (mask_at (columns K) w) d i ++ m ∷ []
    traced_front = rw split (take_at (path ++ m ∷ []) (drop (d + 1) trace) (d + 1) long)

    pub traced_rest : drop (d + 1) (traced K w trace i d m) ≡ drop (d + 1) trace
    traced_rest = rw split (drop_at (path ++ m ∷ []) (drop (d + 1) trace) (d + 1) long)
