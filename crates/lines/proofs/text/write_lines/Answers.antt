-- The first line, then the masks' lines, where both fit. Assumes nothing.
use Prim.Native.Nat.{ℕ, ◌+◌, ◌-◌, ◌≤◌, ◌<◌}
use mathlib.Core.Path.{◌≡◌, sym, ap, ◌∙◌}
use mathlib.Core.Bool.{true}
use mathlib.Core.List.{List, ◌++◌}
use lib.Dec.{leb}
use lib.ListN.{length, length-append}
use lib.Seq.{sets}
use borrow.Author.Tests.{leb-true, leb-false}
use Rattle.std.specs.Prelude.{Result, Ok}
use Rattle.tasks.proofs.Stores.{Storing, storing_start, storing_step, storing_last}
use Rattle.search.specs.declared.run.Verdict.{Verdict}
use Rattle.lines.specs.Lines.{first_line, mask_lines, masks_given, lines_of}
use Rattle.lines.proofs.LineLaws.{lines_length, lines_short, lines_fit, lines_stored, lines_most}
use native.Mathlib.Omega.{arith}
use Rattle.lines.proofs.text.write_lines.Goals.{else-n-out-via-then-n-out+else-masks_fit, else-n-out-via-else-n-out}
use Rattle.lines.proofs.text.write_lines.Goals as goal

-- the first line and the masks' lines fit
begun :
    (a : Result Verdict ℕ) (masks out : List ℕ) {n : ℕ} → n ≡ length (first_line a) → n ≤ length out → leb (length (mask_lines masks)) (length out - n) ≡ true
    → Storing out 0 (first_line a ++ mask_lines masks) out 0 (first_line a ++ mask_lines masks)
begun a masks out {n} e h f =
    storing_start out 0 (first_line a ++ mask_lines masks)
    (omega (arith, leb-true (length (mask_lines masks)) (length out - n) f, length-append (first_line a) (mask_lines masks)))

-- they are all lines of the answer
whole : (a : Result Verdict ℕ) (trace : List ℕ) {masks : List ℕ} → masks ≡ masks_given a trace → first_line a ++ mask_lines masks ≡ lines_of a trace
unfolding lines_of
whole a trace e = ap (λ masks. first_line a ++ mask_lines masks) e

pub returns-then-masks_fit : goal.returns-then-masks_fit
returns-then-masks_fit g c =
    let a = c.with_number-a.result in
    let trace = c.args.trace.now in
    let out = c.args.out.now in
    let masks = c.masks_given-masks.result.now in
    let n = c.first_len-n.ensures in
    let p = begun a masks out n.0 c.if-n-out.true (sym c.masks_fit.ensures ∙ c.if-masks_fit.true) in
    let next : c.put_first-next.result ≡ 0 + length (first_line a) = omega (arith, c.put_first-next.ensures.0) in
    let q = storing_step (first_line a) (mask_lines masks) p c.put_first-next.ensures.1 next in
    let text = whole a trace c.masks_given-masks.ensures in
    let room : length (lines_of a trace) ≤ length out = omega (arith, p.room, ap length text) in
    let long : c.put_masks.result ≡ length (lines_of a trace) = omega (arith, c.put_masks.ensures.0, q.place, ap length text) in
    rw (sym c.with_number-a.ensures) (
      ap Ok long ∙ (lines_fit a trace out room).0,
      storing_last (mask_lines masks) q c.put_masks.ensures.1 ∙ ap (sets out 0) text ∙ lines_stored a trace out room,
      lines_most a trace (omega (arith, n.0, n.1)) (λ i. omega (arith, c.type_inv.trace i)),
    )

pub returns : goal.returns
returns g c =
    let a = c.with_number-a.result in
    let trace = c.args.trace.now in
    let out = c.args.out.now in
    let masks = c.masks_given-masks.result.now in
    let n = c.first_len-n.ensures in
    let text = ap (λ m. length (mask_lines m)) c.masks_given-masks.ensures in
    let short : length out < length (lines_of a trace) =
    elim c.else-n-out.branch [
      | else-n-out-via-then-n-out+else-masks_fit w ↦ (
          let over = leb-false (length (mask_lines masks)) (length out - c.first_len-n.result) (sym w.masks_fit.ensures ∙ w.if-masks_fit.false) in
          omega (arith, w.if-n-out.true, n.0, lines_length a trace)
          )
      | else-n-out-via-else-n-out w ↦ omega (arith, w.if-n-out.false, n.0, lines_length a trace)
    ] in
    let w = lines_short a trace out short in
    rw (sym c.with_number-a.ensures) (w.0, w.1, lines_most a trace (omega (arith, n.0, n.1)) (λ i. omega (arith, c.type_inv.trace i)))
