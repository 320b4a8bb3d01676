use Prim.Native.Nat.{◌-◌}
use mathlib.Core.Path.{◌≡◌, sym, ◌∙◌}
use Rattle.tasks.specs.Words.{state_of}
use Rattle.levels.proofs.Index.{walk_start, walk_next, walk_falls, walk_end}
use Rattle.search.specs.Indexed.{bucket_of, tag_of, newest, tags_in}
use Rattle.states.specs.Keys.{same_keys}
use Rattle.states.proofs.WordLaws.{word_bytes}
use Rattle.states.proofs.KeyLaws.{Bytes, keys_same, keys_differ}
use Rattle.search.proofs.IndexLaws.{keyed, not_tagged}
use Rattle.states.proofs.ColumnLaws.{held, held_key}
use native.Mathlib.Omega.{arith}
use borrow.Author.Rules.{rules}
use Rattle.search.proofs.index.holds.Goals as goal

pub bucket-b-requires : goal.bucket-b-requires
bucket-b-requires c = c.requires.some

pub returns-then-head-tag_bit-eq0 : goal.returns-then-head-tag_bit-eq0
unfolding bucket_of tag_of tags_in
returns-then-head-tag_bit-eq0 c =
    not_tagged c.requires (state_of c.args.v) (rw (c.bucket-b.ensures.0, c.tag_bit.ensures.0, c.key_of-key.ensures) at c.if-head-tag_bit-eq0.true)

pub overflow_cast-cur : goal.overflow_cast-cur
overflow_cast-cur c = omega arith

pub loop-j-init : goal.loop-j-init
unfolding newest
loop-j-init c = rw c.bucket-b.ensures.0 (walk_start (keyed c.requires) c.key_of-key.result)

pub returns-then-eq : goal.returns-then-eq
unfolding same_keys
returns-then-eq c =
    let e = keys_same c.key_in.result c.key_of-key.result (sym c.eq.ensures ∙ c.if-eq.true) in
    held _ (state_of c.args.v) c.type_inv.work (let it : Bytes (state_of c.args.v) = word_bytes c.args.v (λ k b. search rules) in it)
    (record { place = c.in-Some.j; below = omega (arith, c.loop-j.invariant.low, c.in-Some.ensures); same = sym c.key_in.ensures ∙ e ∙ c.key_of-key.ensures })

pub link_of-cur-requires : goal.link_of-cur-requires
link_of-cur-requires c =
    let x = c.requires in
    let h = x.room in
    (omega (arith, c.loop-j.invariant.low), x.fits)

pub loop-j-smaller : goal.loop-j-smaller
loop-j-smaller c =
    let j : c.in-Some.j ≡ c.loop-j.cur - 1 = omega (arith, c.in-Some.ensures) in
    rw (c.link_of-cur.ensures, j) (walk_falls (keyed c.requires) c.key_of-key.result c.loop-j.cur (omega arith) c.loop-j.invariant)

pub loop-j-preserved : goal.loop-j-preserved
unfolding same_keys
loop-j-preserved c =
    let j : c.in-Some.j ≡ c.loop-j.cur - 1 = omega (arith, c.in-Some.ensures) in
    let differ = keys_differ c.key_in.result c.key_of-key.result (sym c.eq.ensures ∙ c.if-eq.false) in
    rw (c.link_of-cur.ensures, j)
    (walk_next (keyed c.requires) c.key_of-key.result c.loop-j.cur (omega arith) c.loop-j.invariant
    (λ q. differ (c.key_in.ensures ∙ rw j q)))

pub returns : goal.returns
returns c =
    let e : c.loop-j.cur ≡ 0 = omega arith in
    let none = rw c.key_of-key.ensures at (walk_end (rw e at c.loop-j.invariant)) in
    λ h. none (held_key _ _ h)
