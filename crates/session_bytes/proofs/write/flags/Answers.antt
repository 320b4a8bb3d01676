use Prim.Native.Nat.{ℕ, suc, ◌*◌, ◌%◌, ◌^◌, ◌<◌}
use mathlib.Core.Path.{◌≡◌, sym, ◌∙◌}
use mathlib.Core.Bool.{true, false}
use native.Mathlib.Nat.{pow-suc}
use lib.Pow.{pow_mono, shl_exact}
use native.Mathlib.Omega.{arith}
use Rattle.std.specs.Prelude.{is_some}
use Rattle.lists.proofs.Turns.{bits_none, bits_turn, bits_less}
use Rattle.session.specs.Session.{mark_in}
use Rattle.session_bytes.specs.Space.{flags}
use Rattle.session_bytes.proofs.write.flags.Goals as goal
use Rattle.session_bytes.proofs.write.flags.Goals.{then-is_some, else-is_some}

-- 1 << i, as a byte is shifted
unit : (i : ℕ) → i < 8 → 1 * 2 ^ i % 256 ≡ 2 ^ i
unit i h = let e : 1 * 2 ^ i % 2 ^ 8 ≡ 1 * 2 ^ i = shl_exact {a = 1} 1 i 8 (omega arith) (omega arith) in e ∙ omega arith

pub loop-i-init : goal.loop-i-init
loop-i-init c = bits_none (λ k. is_some (mark_in c.args.x k))

pub overflow_add-flags : goal.overflow_add-flags
overflow_add-flags c =
    let h = c.loop-i in
    omega (
      arith,
      h.invariant,
      unit h.i c.loop-i-test.true,
      bits_less (λ k. is_some (mark_in c.args.x k)) h.i,
      pow-suc 2 h.i,
      pow_mono {i = suc h.i} {j = 8} (omega arith),
    )

pub loop-i-preserved : goal.loop-i-preserved
loop-i-preserved c =
    let h = c.loop-i in
    let turn = bits_turn (λ k. is_some (mark_in c.args.x k)) h.i h.invariant (unit h.i c.loop-i-test.true) in
    elim c.if-is_some.branch [
      | then-is_some w ↦
          let set : is_some (mark_in c.args.x h.i) ≡ true = sym c.is_some.ensures ∙ w.if-is_some.true in
          w.flags-is ∙ rw set at turn
      | else-is_some w ↦
          let unset : is_some (mark_in c.args.x h.i) ≡ false = sym c.is_some.ensures ∙ w.if-is_some.false in
          omega (arith, w.flags-is, rw unset at turn)
    ]

pub returns : goal.returns
unfolding flags
returns c =
    let h = c.loop-i in
    let e : h.i ≡ 8 = omega arith in
    rw e at h.invariant
