-- The slot is written with the old newest slot as its link, and the head is then the slot, with its tag. Assumes nothing.
use Prim.Native.Nat.{ℕ, ◌/◌, ◌%◌, ◌<◌}
use mathlib.Core.Path.{ap, ◌∙◌}
use native.Mathlib.Numerals.{add-one}
use lib.ListN.{get_or}
use Rattle.tasks.specs.Words.{state_of}
use Rattle.search.specs.Indexed.{bucket_for, bucket_of, tag_of, newest, tags_in}
use Rattle.slots.proofs.RunningLaws.{word_link, word_place, put_slot}
use Rattle.states.proofs.WordLaws.{word_bytes}
use Rattle.states.proofs.KeyLaws.{Bytes}
use Rattle.search.proofs.TagLaws.{tags_fit}
use Rattle.search.proofs.IndexLaws.{pushed}
use native.Mathlib.Omega.{arith}
use borrow.Author.Rules.{rules}
use Rattle.search.proofs.index.push.Goals as goal

pub put_slot-requires : goal.put_slot-requires
put_slot-requires c = let x = c.requires in (x.1, x.0.fits)

pub overflow_mul-heads : goal.overflow_mul-heads
overflow_mul-heads c = let heads_fit : (b : ℕ) → get_or c.args.heads.now b 0 < 4294967296 = λ b. omega (arith, c.slice_known-2-1.given b) in let f = tags_fit _ _ (heads_fit c.bucket-b.result) c.tag_bit.ensures.1 in omega arith

pub overflow_add-heads : goal.overflow_add-heads
overflow_add-heads c = let x = c.requires in let n = x.1 in let k = x.0.few in omega arith

pub overflow_cast-heads : goal.overflow_cast-heads
overflow_cast-heads c = let x = c.requires in let n = x.1 in let k = x.0.few in omega arith

pub overflow_add-heads-2 : goal.overflow_add-heads-2
overflow_add-heads-2 c = let heads_fit : (b : ℕ) → get_or c.args.heads.now b 0 < 4294967296 = λ b. omega (arith, c.slice_known-2-1.given b) in let f = tags_fit _ _ (heads_fit c.bucket-b.result) c.tag_bit.ensures.1 in let x = c.requires in let n = x.1 in let k = x.0.few in omega arith

pub returns : goal.returns
unfolding bucket_of newest tags_in tag_of
returns c =
    let a = c.args in
    let key = c.key_of-key.ensures in
    let bucket = c.bucket-b in
    let word = c.word_of-word in
    let fits = (let it : Bytes (state_of c.args.v) = word_bytes c.args.v (λ k b. search rules) in it) in
    let put = put_slot a.work.now (state_of a.v) word.result a.mask c.requires.1 c.requires.0.fits fits.c_length fits.p_length (omega (arith, word.type_inv)) in
    rw (c.put_slot.ensures, c.tag_bit.ensures.0, key, add-one a.n)
    (pushed c.requires.0 put c.requires.1 bucket.result (ap (λ x. x % 1048576) word.ensures ∙ word_link a.parent _ (omega arith))
    (bucket.ensures.0 ∙ ap (bucket_for _) key) bucket.ensures.1 (ap (λ x. x / 1048576) word.ensures ∙ word_place a.parent _ (omega arith)))
