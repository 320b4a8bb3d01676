-- The work left is that of the state. Assumes nothing.
use mathlib.Core.Path.{◌≡◌, sym, ◌∙◌}
use lib.ListN.{length}
use lib.Seq.{ext_get_or}
use native.Mathlib.Omega.{arith}
use Rattle.std.proofs.Common.{rules}
use Rattle.service.proofs.totals.account_of.Goals as goal

pub returns : goal.returns
returns c =
    let work = c.args.state.c in
    let items = c.map.ensures.items in
    let len : length work ≡ 8 = search rules in
    let long : length c.map.result ≡ 8 = items.long in
    let same : c.map.result ≡ work =
    ext_get_or 0 c.map.result work (long ∙ sym len)
    (λ i b. let called = items.at i 0 0 (omega (arith, long)) in (search rules)) in
    rw same
