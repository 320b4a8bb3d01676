use Prim.Native.Nat.{◌+◌, ◌%◌, ◌/◌}
use mathlib.Core.Path.{sym, ap, ◌∙◌}
use native.Mathlib.Omega.{arith}
use native.Mathlib.Numerals.{add-one}
use lib.ListN.{length, set, length-set}
use lib.Seq.{sets}
use Rattle.tasks.proofs.Groups.{bytes_low, bytes_two}
use Rattle.tasks.proofs.number.put_number.Goals as goal

pub bounds-out-at : goal.bounds-out-at
bounds-out-at c = omega (arith, ap length (bytes_low c.args.x c.if-x-lt128.true))

pub returns-then-x-lt128 : goal.returns-then-x-lt128
returns-then-x-lt128 c =
    let low = bytes_low c.args.x c.if-x-lt128.true in
    (omega (arith, ap length low), sym (ap (sets c.args.out.now c.args.at) low))

pub bounds-out-at-2 : goal.bounds-out-at-2
bounds-out-at-2 c = omega (arith, ap length (bytes_two c.args.x (omega arith) (omega arith)))

pub bounds-out-at-3 : goal.bounds-out-at-3
bounds-out-at-3 c = omega (arith, ap length (bytes_two c.args.x (omega arith) (omega arith)), length-set c.args.out.now c.args.at (c.args.x % 128 + 128))

pub returns : goal.returns
returns c =
    let two = bytes_two c.args.x (omega arith) (omega arith) in
    let first = set c.args.out.now c.args.at (c.args.x % 128 + 128) in
    let stored = ap (λ j. set first j (c.args.x / 128)) (add-one c.args.at) in
    (omega (arith, ap length two), stored ∙ sym (ap (sets c.args.out.now c.args.at) two))
