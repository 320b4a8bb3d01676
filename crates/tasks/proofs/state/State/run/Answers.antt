use Rattle.std.proofs.Common.{rules}
use Rattle.lists.proofs.Made.{made}
use Rattle.tasks.specs.Tick.{ran_at, fallen, ran}
use Rattle.tasks.proofs.state.State.run.Goals as goal

pub returns : goal.returns
unfolding ran ran_at fallen
returns c =
    let a = c.args in
    let work = made _ (ran_at a.self.c a.run) (λ i y q l k. search rules) c.from_fn.ensures.items in
    let gap = made _ (fallen a.self.p) (λ i y q l k. search rules) c.from_fn-2.ensures.items in
    λ k. record { c = work k; p = gap k }
