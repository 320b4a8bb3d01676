use Rattle.std.proofs.Common.{rules, get_or, ◌+◌, ◌*◌}
use Rattle.lists.proofs.Made.{made}
use Rattle.tasks.specs.Words.{words_of}
use Rattle.tasks.proofs.state.State.words.Goals as goal

pub returns : goal.returns
unfolding words_of
returns c =
    let s = c.args.self in
    made _ (λ i. get_or s.c i 0 + 256 * get_or s.p i 0) (λ i y q l k. search rules) c.from_fn.ensures.items
