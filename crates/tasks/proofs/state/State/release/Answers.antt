use Rattle.std.proofs.Common.{rules}
use Rattle.lists.proofs.Made.{made}
use Rattle.tasks.specs.Tick.{released_at, released}
use Rattle.tasks.proofs.state.State.release.Goals as goal

pub returns : goal.returns
unfolding released released_at
returns c =
    let a = c.args in
    let work = made _ (released_at a.t.work a.self.c a.mask) (λ i y q l k. search rules) c.from_fn.ensures.items in
    let gap = made _ (released_at a.t.gap a.self.p a.mask) (λ i y q l k. search rules) c.from_fn-2.ensures.items in
    λ k. record { c = work k; p = gap k }
