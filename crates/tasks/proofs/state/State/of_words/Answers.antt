use Rattle.std.proofs.Common.{rules, get_or, ◌/◌, ◌%◌}
use Rattle.lists.proofs.Made.{made}
use Rattle.tasks.specs.Words.{state_of}
use Rattle.tasks.proofs.state.State.of_words.Goals as goal

pub returns : goal.returns
unfolding state_of
returns c =
    let v = c.args.v in
    let work = made _ (λ i. get_or v i 0 % 256) (λ i y q l k. search rules) c.from_fn.ensures.items in
    let gap = made _ (λ i. get_or v i 0 / 256) (λ i y q l k. search rules) c.from_fn-2.ensures.items in
    λ k. record { c = work k; p = gap k }
