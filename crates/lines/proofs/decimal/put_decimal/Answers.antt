use Prim.Native.Nat.{◌+◌, ◌/◌, ◌%◌}
use mathlib.Core.Path.{◌≡◌, refl, sym, ap, ◌∙◌}
use lib.ListN.{length-set}
use lib.Seq.{sets}
use Rattle.lines.specs.Lines.{decimal}
use Rattle.lines.proofs.Digits.{decimal_some, decimal_longer, decimal_single, decimal_more, decimal_one}
use Rattle.lines.proofs.Places.{sets_last}
use native.Mathlib.Omega.{arith}
use Rattle.lines.proofs.decimal.put_decimal.Goals as goal

pub overflow_sub-i : goal.overflow_sub-i
overflow_sub-i c = omega (arith, c.decimal_len.ensures.0, decimal_some c.args.x)

pub loop-rest-init : goal.loop-rest-init
loop-rest-init c =
    let e = c.decimal_len.ensures.0 in
    let p = c.requires in
    let some = decimal_some c.args.x in
    (refl, omega arith, refl, omega arith)

pub overflow_sub-i-in-loop-rest : goal.overflow_sub-i-in-loop-rest
overflow_sub-i-in-loop-rest c =
    let rest = c.loop-rest.rest in
    omega (arith, c.loop-rest.invariant.1, decimal_longer rest c.loop-rest-test.true, decimal_some (rest / 10))

pub loop-rest-preserved : goal.loop-rest-preserved
loop-rest-preserved c =
    let l = c.loop-rest in
    let rest = l.rest in
    let at = c.args.at in
    let big = c.loop-rest-test.true in
    let longer = decimal_longer rest big in
    let some = decimal_some (rest / 10) in
    let place = l.invariant.1 in (
      sym (sets_last (decimal (rest / 10)) l.out at l.i (48 + rest % 10) (omega arith)) ∙ ap (sets l.out at) (sym (decimal_more rest big)) ∙ l.invariant.0,
      omega arith,
      simp length-set l.invariant.2,
      simp length-set (let h = l.invariant.3 in omega arith),
    )

pub returns : goal.returns
returns c =
    let l = c.loop-rest in
    let rest = l.rest in
    let at = c.args.at in
    let small = c.loop-rest-test.false in
    let e : l.i ≡ at = omega (arith, l.invariant.1, decimal_single rest small) in
    (ap (λ n. at + n) c.decimal_len.ensures.0, rw e (ap (sets l.out at) (sym (decimal_one rest small)) ∙ l.invariant.0))
