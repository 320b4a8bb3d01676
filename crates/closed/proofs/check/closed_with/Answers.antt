-- Sound states, the start state, and every pair inside. Assumes nothing.
use mathlib.Core.Path.{◌≡◌}
use mathlib.Core.Bool.{true, false}
use Rattle.tasks.specs.State.{start}
use Rattle.tasks.specs.Words.{state_of}
use Rattle.states.proofs.ColumnLaws.{held, held_key}
use Rattle.closed.proofs.FileLaws.{start_bytes}
use Rattle.closed.proofs.AnswerLaws.{closed_is}
use Rattle.closed.proofs.check.closed_with.Goals as goal

pub all_sound-requires : goal.all_sound-requires
all_sound-requires c =
    rw c.of-ticking.ensures c.requires.0

pub returns-then-not-all_sound : goal.returns-then-not-all_sound
returns-then-not-all_sound c =
    let none : c.all_sound.result ≡ false = c.if-not-all_sound.true in
    rw (c.of-ticking.ensures, none) at c.all_sound.ensures

pub returns-then-not-scan : goal.returns-then-not-scan
unfolding state_of
returns-then-not-scan c =
    let none : c.scan.result ≡ false = c.if-not-scan.true in
    let absent = rw none at c.scan.ensures in
    λ x. absent (rw (c.key_of-start.ensures, c.requires.0.is) (held_key c.args.file.bytes.now start x.begins))

pub all_inside-requires : goal.all_inside-requires
all_inside-requires c =
    let yes : c.all_sound.result ≡ true = c.if-not-all_sound.false in
    let sound = rw (c.of-ticking.ensures, yes) at c.all_sound.ensures in
    rw c.of-ticking.ensures (record { given = c.requires.0; sound = sound; some = c.requires.1 })

pub returns : goal.returns
unfolding state_of
returns c =
    let sound : c.all_sound.result ≡ true = c.if-not-all_sound.false in
    let found : c.scan.result ≡ true = c.if-not-scan.false in
    let h = rw found at c.scan.ensures in
    closed_is c.args.t c.args.file.bytes.now c.all_inside.result c.requires.0.valid (rw (c.of-ticking.ensures, sound) at c.all_sound.ensures)
    (rw (← c.requires.0.is) (held c.args.file.bytes.now start c.args.file.fits start_bytes (rw c.key_of-start.ensures at h)))
    (rw c.of-ticking.ensures at c.all_inside.ensures)
