-- The state exceeds the table's numbers, or no job of it is tight, or one is late, or its full mask is tried. Assumes nothing.
use mathlib.Core.Path.{◌≡◌, refl, sym, ap, ◌∙◌}
use mathlib.Core.Bool.{Bool, true, false, not, ◌&&◌}
use borrow.Author.Tests.{not-true, not-false}
use Rattle.tasks.specs.Tight.{tight}
use Rattle.tasks.specs.Words.{state_of}
use Rattle.lists.proofs.Bools.{clash}
use Rattle.tasks.proofs.InWords.{WordList}
use Rattle.states.specs.Miss.{full_by}
use Rattle.states.proofs.MissLaws.{full_by_lem, calm_by}
use Rattle.closed.proofs.RowLaws.{full_sound}
use Rattle.closed.proofs.SoundLaws.{proper_by, proper_within, proper_kept_all, loose_kept}
use borrow.Author.Rules.{rules}
use Rattle.closed.proofs.sound.is_sound.Goals as goal

and_no : (b : Bool) → b && false ≡ false
and_no true = refl
and_no false = refl

pub returns-then-exceeds : goal.returns-then-exceeds
returns-then-exceeds c =
    λ x. clash (sym c.exceeds.ensures ∙ c.if-exceeds.true) (proper_within c.args.ticking.table (state_of c.args.v) x.proper)

pub returns-then-not-tight : goal.returns-then-not-tight
returns-then-not-tight c =
    let t = c.args.ticking.table in
    let v = c.args.v in
    let loose = sym c.tight.ensures ∙ c.if-not-tight.true in
    let proper = proper_by t (state_of v) c.requires (sym c.exceeds.ensures ∙ c.if-exceeds.false) (loose_kept t (state_of v) loose) in
    record { proper = proper; calm = calm_by t c.requires (state_of v) proper refl c.args.ticking.made (let it : WordList c.args.v = record { word = λ i h. search rules } in it) (ap (λ b. b && full_by t c.args.ticking.ticker v) loose) }

pub returns-then-misses : goal.returns-then-misses
returns-then-misses c =
    λ x. clash (sym c.misses.ensures ∙ c.if-misses.true) (proper_kept_all c.args.ticking.table (state_of c.args.v) x.proper)

pub returns : goal.returns
returns c =
    let t = c.args.ticking.table in
    let v = c.args.v in
    let within = sym c.exceeds.ensures ∙ c.if-exceeds.false in
    let proper = proper_by t (state_of v) c.requires within (sym c.misses.ensures ∙ c.if-misses.false) in
    let full = c.full_misses.ensures in
    full_sound t (state_of v) (not c.full_misses.result) c.requires proper
    (λ e. calm_by t c.requires (state_of v) proper refl c.args.ticking.made (let it : WordList c.args.v = record { word = λ i h. search rules } in it) (rw (sym full ∙ not-true _ e) (and_no (tight t (state_of v)))))
    (λ e. sym (full_by_lem t c.requires (state_of v) proper refl c.args.ticking.made (let it : WordList c.args.v = record { word = λ i h. search rules } in it)) ∙ sym full ∙ not-false _ e)
