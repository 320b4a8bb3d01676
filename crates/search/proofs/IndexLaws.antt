-- The laws of the index over slots: it starts empty, is walked by keys, and grows by a pushed slot. Assumes nothing.
use Prim.Native.Nat.{ℕ, suc, ◌+◌, ◌*◌, ◌/◌, ◌%◌, ◌^◌, ◌≤◌, ◌<◌}
use mathlib.Core.Path.{◌≡◌, sym, ap, ◌∙◌}
use mathlib.Core.Bool.{true}
use mathlib.Core.List.{List}
use lib.Bits.{bit_and, bit_or}
use Rattle.lists.proofs.Bools.{clash}
use Rattle.tasks.specs.Tick.{bit}
use Rattle.search.proofs.TagLaws.{tag_stays, tag_set, tag_off}
use native.Mathlib.Omega.{arith}
use native.Mathlib.Decide.{ℕ_discrete}
use borrow.Author.Count.{below_more}
use native.Mathlib.Numerals.{add-one}
use lib.ListN.{length, get_or, set, length-set}
use lib.Seq.{get_or-set_same, get_or-set_other}
use Rattle.tasks.specs.declared.state.State.{State}
use Rattle.levels.specs.Index.{Index}
use Rattle.levels.specs.Verdict.{Holds}
use Rattle.levels.proofs.Index.{index_start, index_push}
use Rattle.states.specs.Bytes.{state_in}
use Rattle.states.specs.Keys.{key_in, key_of}
use Rattle.states.proofs.ColumnLaws.{key_in_lem}
use Rattle.slots.specs.Running.{link_at}
use Rattle.slots.proofs.RunningLaws.{Put}
use Rattle.search.specs.Indexed.{bucket_for, bucket_of, tag_of, newest, tags_in, Indexed, Pushed}

-- no slot is written, and every head is 0
pub indexed_start :
    {K : ℕ} (w heads : List ℕ) → K ≤ 1000000 → 21 * K ≤ length w → 0 < length heads → ((b : ℕ) → get_or heads b 0 ≡ 0) → Indexed K w heads 0
unfolding newest
indexed_start w heads few fits h zeros =
    record {
      some = h;
      few = few;
      room = omega arith;
      fits = fits;
      index = index_start (λ b. rw (zeros b));
      tagged = λ j b. absurd (omega arith);
    }

-- ---- a walk by keys

index_by : {S T : Type 0} (f : S → T) (hash : T → ℕ) (at : ℕ → S) {head link : ℕ → ℕ} {n : ℕ} → Index (λ s. hash (f s)) at head link n
    → Index hash (λ i. f (at i)) head link n
index_by f hash at x = record {
  head_low = x.head_low;
  head_last = x.head_last;
  head_hash = x.head_hash;
  link_low = x.link_low;
  link_last = x.link_last;
  link_hash = x.link_hash;
}

-- the index is one of the slots' keys too
pub keyed : {K : ℕ} {w heads : List ℕ} {n : ℕ} → Indexed K w heads n → Index (bucket_for (length heads)) (key_in w) (newest heads) (link_at K w) n
unfolding bucket_of
keyed {K} {w} {heads} {n} x =
    let e : (λ i. key_of (state_in w i)) ≡ key_in w = (λ q i. sym (key_in_lem w i) q) in
    rw e at (index_by key_of (bucket_for (length heads)) (state_in w) x.index)

-- no slot of the bucket has the tag of s: none holds s
pub not_tagged :
    {K : ℕ} {w heads : List ℕ} {n : ℕ} → Indexed K w heads n → (s : State)
    → bit_and (tags_in heads (bucket_of (length heads) s)) (2 ^ tag_of s) ≡ 0 → Holds (state_in w) n s → ⊥
not_tagged {K} {w} {heads} x s e h =
    clash (rw h.same at (x.tagged h.place h.below)) (tag_off (tags_in heads (bucket_of (length heads) s)) (tag_of s) e)

-- ---- a pushed slot

-- the head of a bucket with slot n in front and one more tag
abbrev head_with : ℕ → ℕ → ℕ → ℕ
head_with tags tag n = bit_or tags (2 ^ tag) * 1048576 + suc n

-- slot n goes to the front of the chain of its bucket b, and the link in its word is the slot that was there
module _ {K : ℕ} {w heads : List ℕ} {n : ℕ} (x : Indexed K w heads n) {w' : List ℕ} {s : State} {word mask : ℕ} (put : Put K w w' n s word mask) (below : n < K)
    (b : ℕ) (link : word % 1048576 ≡ newest heads b) (here : b ≡ bucket_of (length heads) s) (low : b < length heads) where
  abbrev heads₁ : List ℕ
  heads₁ = set heads b (head_with (tags_in heads b) (tag_of s) n)

  new_head : get_or heads₁ b 0 ≡ head_with (tags_in heads b) (tag_of s) n
  new_head = get_or-set_same heads b (head_with (tags_in heads b) (tag_of s) n) 0 low

  old_head : (j : ℕ) → (j ≡ b → ⊥) → get_or heads₁ j 0 ≡ get_or heads j 0
  old_head j ne = get_or-set_other heads b j (head_with (tags_in heads b) (tag_of s) n) 0 ne

  new_newest : newest heads₁ b ≡ suc n
  unfolding newest
  new_newest = let f = x.few in rw new_head (omega arith)

  new_tags : tags_in heads₁ b ≡ bit_or (tags_in heads b) (2 ^ tag_of s)
  unfolding tags_in
  new_tags = let f = x.few in ap (λ h. h / 1048576) new_head ∙ whole (bit_or (tags_in heads b) (2 ^ tag_of s))
    where
      whole : (y : ℕ) → (y * 1048576 + suc n) / 1048576 ≡ y
      whole y = let f = x.few in omega arith

  link_old : (j : ℕ) → j < n → link_at K w' j ≡ link_at K w j
  unfolding link_at
  link_old j h = ap (λ v. v % 1048576) (put.words j h)

  link_new : link_at K w' n ≡ newest heads b
  unfolding link_at
  link_new = ap (λ v. v % 1048576) put.word_is ∙ link

  grown : Index (bucket_of (length heads)) (state_in w') (newest heads₁) (link_at K w') (n + 1)
  unfolding newest
  grown =
      rw (add-one n)
      (index_push {head' = newest heads₁} x.index put.states put.state
      (λ j ne. ap (λ h. h % 1048576) (old_head j (λ q. ne (q ∙ here))))
      (rw (← here) new_newest)
      link_old
      (link_new ∙ ap (newest heads) here))

  -- a tag in the heads stays
  old_tag : (u : State) → bit (tags_in heads (bucket_of (length heads) u)) (tag_of u) ≡ true → bit (tags_in heads₁ (bucket_of (length heads) u)) (tag_of u) ≡ true
  unfolding tags_in
  old_tag u e =
      elim (ℕ_discrete (bucket_of (length heads) u) b) [
        | yes q ↦ rw (q, new_tags) (tag_stays (tags_in heads b) (2 ^ tag_of s) (tag_of u) (rw q at e))
        | no q ↦ rw (old_head (bucket_of (length heads) u) q) e
      ]

  tagged₁ : (j : ℕ) → j < n + 1 → bit (tags_in heads₁ (bucket_of (length heads) (state_in w' j))) (tag_of (state_in w' j)) ≡ true
  tagged₁ =
      below_more (λ j. bit (tags_in heads₁ (bucket_of (length heads) (state_in w' j))) (tag_of (state_in w' j)) ≡ true) n
      (λ j h. rw (put.states j h) (old_tag (state_in w j) (x.tagged j h)))
      (rw (put.state, ← here, new_tags) (tag_set (tags_in heads b) (tag_of s)))

  pub pushed : {parent : ℕ} → word / 1048576 ≡ parent % 4096 → Pushed K w w' heads heads₁ n s parent mask
  pushed place =
      let same = length-set heads b (head_with (tags_in heads b) (tag_of s) n) in
      record {
        len = put.len;
        states = put.states;
        words = put.words;
        masks = put.masks;
        state = put.state;
        place = ap (λ v. v / 1048576) put.word_is ∙ place;
        mask_is = put.mask_is;
        rest = put.rest;
        indexed = record {
          some = rw same x.some;
          few = x.few;
          room = omega arith;
          fits = (let f = x.fits in let l = put.len in omega arith);
          index = rw same grown;
          tagged = rw same tagged₁;
        };
      }
