use Prim.Native.Nat.{ℕ, suc, ◌+◌, ◌*◌}
use mathlib.Core.Path.{◌≡◌, ◌∙◌}
use mathlib.Core.List.{[], ◌∷◌}
use lib.ListN.{length, get_or, set, length-set}
use Rattle.std.proofs.Common.{rules}
use Rattle.tasks.proofs.Stores.{storing_start, storing_step, storing_end}
use Rattle.ronchhek.specs.Tables.{entries, table_bytes}
use Rattle.ronchhek.proofs.TableLaws.{entries_turn, entries_end, entries_length, stored_whole}
use native.Mathlib.Omega.{arith}
use Rattle.ronchhek.proofs.tables.put_table.Goals as goal

pub loop-i-init : goal.loop-i-init
loop-i-init c =
    let a = c.args in
    let l : length (set (set (set a.out.now 0 a.t.policy) 1 a.t.m) 2 a.t.n) ≡ length a.out.now = simp length-set in
    storing_start _ 3 (entries a.t 8 0) (omega (arith, entries_length a.t 8 0))

pub loop-i-preserved : goal.loop-i-preserved
loop-i-preserved c =
    let t = c.args.t in
    let i = c.loop-i.i in
    let out = c.loop-i.out in
    let at : ℕ = 3 + 3 * i in
    let one : at + 1 ≡ suc at = omega arith in
    let two : at + 2 ≡ suc (suc at) = omega arith in
    let next : 3 + 3 * (i + 1) ≡ at + 3 = omega arith in
    let three = get_or t.work i 0 ∷ get_or t.deadline i 0 ∷ get_or t.gap i 0 ∷ [] in
    let s = rw (entries_turn t i (omega arith)) at c.loop-i.invariant in
    storing_step three _ s (rw (one, two)) next

pub returns : goal.returns
unfolding table_bytes
returns c =
    let a = c.args in
    storing_end (rw (entries_end _ c.loop-i.i (omega arith)) at c.loop-i.invariant) ∙ stored_whole a.t a.out.now (search rules)
