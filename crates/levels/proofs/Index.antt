-- The laws of the hash index: it starts empty and grows by a pushed slot; a walk starts at the head, follows a link, ends.
use mathlib.Core.Path.{◌≡◌, refl, sym, ◌∙◌, ap}
use mathlib.Core.Logic.{◌⊎◌, ◌≢◌}
use mathlib.Core.Logic.◌⊎◌.{inl, inr}
use Prim.Native.Nat.{ℕ, zero, suc, ◌-◌, ◌≤◌, ◌<◌}
use native.Mathlib.Omega.{arith}
use native.Mathlib.Decide.{ℕ_discrete, dec_lt}
use Rattle.levels.specs.Verdict.{Holds}
use Rattle.levels.specs.Index.{Index}
use Rattle.levels.proofs.Numbered.{split_last}

-- every bucket is empty
pub index_start : {S : Type 0} {hash : S → ℕ} {at : ℕ → S} {head link : ℕ → ℕ} → ((b : ℕ) → head b ≡ 0) → Index hash at head link 0
index_start zeros = record {
  head_low = λ b. omega (arith, zeros b);
  head_last = λ b i l h. absurd (omega arith);
  head_hash = λ b i e. absurd (omega (arith, zeros b));
  link_low = λ j h. omega arith;
  link_last = λ j i h. absurd (omega arith);
  link_hash = λ j i h. absurd (omega arith);
}

-- state s goes into slot n, at the front of its bucket's chain
pub index_push : {S : Type 0} {hash : S → ℕ} {at at' : ℕ → S} {head head' link link' : ℕ → ℕ} {n : ℕ} {s : S} → Index hash at head link n
    → ((j : ℕ) → j < n → at' j ≡ at j) → at' n ≡ s
    → ((b : ℕ) → b ≢ hash s → head' b ≡ head b) → head' (hash s) ≡ suc n
    → ((j : ℕ) → j < n → link' j ≡ link j) → link' n ≡ head (hash s)
    → Index hash at' head' link' (suc n)
index_push {S} {hash} {at} {at'} {head} {head'} {link} {link'} {n} {s} x same here others mine links new = record {
  head_low = λ b. low b (ℕ_discrete b (hash s));
  head_last = λ b i l h e. last b i l h e (ℕ_discrete b (hash s));
  head_hash = λ b i e. bucket b i e (ℕ_discrete b (hash s));
  link_low = λ j h. link_low' j (split_last h);
  link_last = λ j i h l b. link_last' j i l b (split_last h);
  link_hash = λ j i h e. link_hash' j i e (split_last h);
}
  where
    low : (b : ℕ) → Dec (b ≡ hash s) → head' b ≤ suc n
    low b (yes z) = rw (z, mine) (omega arith)
    low b (no nz) = rw (others b nz) (omega (arith, x.head_low b))

    last : (b i : ℕ) → head' b ≤ i → i < suc n → hash (at' i) ≡ b → Dec (b ≡ hash s) → ⊥
    last b i l h e (yes z) = let k : head' b ≡ suc n = (rw z mine) in omega arith
    last b i l h e (no nz) = go (split_last h)
      where
        go : (i < n) ⊎ (i ≡ n) → ⊥
        go (inl q) = x.head_last b i (rw (others b nz) at l) q (rw (same i q) at e)
        go (inr z) = nz (sym (rw (z, here) at e))

    bucket : (b i : ℕ) → head' b ≡ suc i → Dec (b ≡ hash s) → hash (at' i) ≡ b
    bucket b i e (yes z) = let k : head' b ≡ suc n = (rw z mine) in let y : i ≡ n = omega arith in rw (y, here) (sym z)
    bucket b i e (no nz) =
        let k : head b ≡ suc i = sym (others b nz) ∙ e in
        let q : i < n = omega (arith, x.head_low b) in
        rw (same i q) (x.head_hash b i k)

    link_low' : (j : ℕ) → (j < n) ⊎ (j ≡ n) → link' j ≤ j
    link_low' j (inl q) = rw (links j q) (x.link_low j q)
    link_low' j (inr z) = rw (z, new) (x.head_low (hash s))

    link_last' : (j i : ℕ) → link' j ≤ i → i < j → (j < n) ⊎ (j ≡ n) → hash (at' i) ≢ hash (at' j)
    link_last' j i l b (inl q) e = x.link_last j i q (rw (links j q) at l) b (rw (same i (omega arith), same j q) at e)
    link_last' j i l b (inr z) e =
        let q : i < n = omega arith in
        let k : head (hash s) ≤ i = (rw (z, new) at l) in
        x.head_last (hash s) i k q (sym (ap hash (same i q)) ∙ (rw (z, here) at e))

    link_hash' : (j i : ℕ) → link' j ≡ suc i → (j < n) ⊎ (j ≡ n) → hash (at' i) ≡ hash (at' j)
    link_hash' j i e (inl q) =
        let k : link j ≡ suc i = sym (links j q) ∙ e in
        let b : i < n = omega (arith, x.link_low j q) in
        rw (same i b, same j q) (x.link_hash j i q k)
    link_hash' j i e (inr z) =
        let k : head (hash s) ≡ suc i = sym new ∙ (rw z at e) in
        let b : i < n = omega (arith, x.head_low (hash s)) in
        rw (same i b, z, here) (x.head_hash (hash s) i k)

-- a walk along a chain for s stands at cur: no slot from cur on holds s, and slot cur - 1 is of s's bucket
pub record Walk {S : Type 0} (hash : S → ℕ) (at : ℕ → S) (n : ℕ) (s : S) (cur : ℕ) : Type 0 where
  pub low : cur ≤ n
  pub clear : (i : ℕ) → cur ≤ i → i < n → at i ≡ s → ⊥
  pub bucket : (i : ℕ) → cur ≡ suc i → hash (at i) ≡ hash s

-- a walk for s
module _ {S : Type 0} {hash : S → ℕ} {at : ℕ → S} {head link : ℕ → ℕ} {n : ℕ} (x : Index hash at head link n) (s : S) where
  pub walk_start : Walk hash at n s (head (hash s))
  walk_start = record {
    low = x.head_low (hash s);
    clear = λ i l h e. x.head_last (hash s) i l h (ap hash e);
    bucket = λ i e. x.head_hash (hash s) i e;
  }

  follow : (j : ℕ) → Walk hash at n s (suc j) → (at j ≡ s → ⊥) → Walk hash at n s (link j)
  follow j w differs = record {
    low = omega (arith, x.link_low j w.low, w.low);
    clear = clear;
    bucket = λ i e. x.link_hash j i w.low e ∙ w.bucket j refl;
  }
    where
      clear : (i : ℕ) → link j ≤ i → i < n → at i ≡ s → ⊥
      clear i l h e = go (dec_lt i j)
        where
          last : Dec (i ≡ j) → (i < j → ⊥) → ⊥
          last (yes z) nl = differs (rw z at e)
          last (no nz) nl = w.clear i (omega arith) h e

          go : Dec (i < j) → ⊥
          go (yes b) = x.link_last j i w.low l b (ap hash e ∙ sym (w.bucket j refl))
          go (no nb) = last (ℕ_discrete i j) nb

  -- slot cur - 1 is not s: go on to its link, which is lower
  pub walk_next : (cur : ℕ) → 0 < cur → Walk hash at n s cur → (at (cur - 1) ≡ s → ⊥) → Walk hash at n s (link (cur - 1))
  walk_next zero h w differs = absurd (omega arith)
  walk_next (suc j) h w differs = let z : suc j - 1 ≡ j = omega arith in rw z (follow j w (λ e. differs (rw z e)))

  pub walk_falls : (cur : ℕ) → 0 < cur → Walk hash at n s cur → link (cur - 1) < cur
  walk_falls zero h w = absurd (omega arith)
  walk_falls (suc j) h w = let z : suc j - 1 ≡ j = omega arith in rw z (omega (arith, x.link_low j w.low))

-- .. and where it ends no slot holds s
pub walk_end : {S : Type 0} {hash : S → ℕ} {at : ℕ → S} {n : ℕ} {s : S} → Walk hash at n s 0 → Holds at n s → ⊥
walk_end w h = w.clear h.place (omega arith) h.below h.same
