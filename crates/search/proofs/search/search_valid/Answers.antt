-- K is 0, the trace is too short, or the spaces will do. Assumes nothing.
use Rattle.search.specs.Claim.{slots_in}
use Rattle.search.proofs.ClaimLaws.{slots_is, refusal_nine, refusal_ten, refusal_zero, refused_search, found_search}
use mathlib.Core.Path.{sym, ◌∙◌}
use native.Mathlib.Omega.{arith}
use Rattle.search.proofs.search.search_valid.Goals as goal

pub returns-then-k-eq0 : goal.returns-then-k-eq0
returns-then-k-eq0 c =
    let k = c.slots_in-k in
    let a = c.args in
    let is = slots_is a.work.now k.ensures in
    refused_search (refusal_nine (slots_in a.work.now) a.trace.now (sym is ∙ c.if-k-eq0.true)) (omega arith)

pub returns-then-trace-k : goal.returns-then-trace-k
returns-then-trace-k c =
    let k = c.slots_in-k in
    let a = c.args in
    let is = slots_is a.work.now k.ensures in
    refused_search (refusal_ten (slots_in a.work.now) a.trace.now (λ e. c.if-k-eq0.false (is ∙ e)) (rw is at c.if-trace-k.true)) (omega arith)

pub search_sized-requires : goal.search_sized-requires
search_sized-requires c =
    let k = c.slots_in-k in
    let a = c.args in
    let ne = c.if-k-eq0.false in
    record {
      valid = a.valid.sound;
      is = slots_is a.work.now k.ensures;
      some = omega arith;
      long = c.if-trace-k.false;
    }

pub returns : goal.returns
returns c =
    let k = c.slots_in-k in
    let a = c.args in
    let is = slots_is a.work.now k.ensures in
    found_search (refusal_zero (slots_in a.work.now) a.trace.now (λ e. c.if-k-eq0.false (is ∙ e)) (rw is at c.if-trace-k.false)) (rw is at c.search_sized.ensures)
