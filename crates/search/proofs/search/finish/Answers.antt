-- What the levels leave, with the parents in the place of the words and the report, is what the claim says. Assumes nothing.
use native.Mathlib.Omega.{arith}
use Rattle.search.proofs.ClaimLaws.{ran_found}
use Rattle.search.proofs.search.finish.Goals as goal

pub settle-requires : goal.settle-requires
settle-requires c =
    let x = c.requires in
    rw c.written-n.ensures (x.most, x.fits, x.len, x.last)

pub report-requires : goal.report-requires
report-requires c = c.requires.ready _ (rw c.written-n.ensures at c.settle.ensures)

pub returns : goal.returns
returns c =
    let settled = rw c.written-n.ensures at c.settle.ensures in
    let report = c.report in
    record {
      found = λ t w₀ valid len ran.
          ran_found valid len ran settled report.result report.ensures report.auto.trace (λ i. omega (arith, c.slice_known-4-1.given i));
    }
