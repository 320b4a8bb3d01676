use Rattle.std.proofs.Common.{rules, get_or, ap, ◌∙◌, ◌+◌, ◌*◌}
use Rattle.lists.proofs.Made.{made}
use Rattle.tasks.specs.Words.{state_of}
use Rattle.states.proofs.WordLaws.{loaded}
use Rattle.states.proofs.words.words_from.Goals as goal

pub returns : goal.returns
returns c =
    let b = c.args.bytes.now in
    let a = c.args.at in
    ap state_of (made _ (λ k. get_or b (a + 2 * k) 0 + 256 * get_or b (a + 2 * k + 1) 0) (λ i y q l k. search rules) c.from_fn.ensures.items)
    ∙ loaded b a c.type_inv.bytes
