-- The lines of every answer fit the output. Assumes nothing.
use mathlib.Core.Path.{◌≡◌, sym, ap, ◌∙◌}
use mathlib.Core.List.{◌++◌}
use Prim.Native.Nat.{◌≤◌}
use lib.ListN.{length, drop}
use Rattle.std.specs.Result.{result_unwrap_or}
use Rattle.tasks.specs.Refusals.{refusal_number}
use Rattle.lines.specs.Lines.{numbered, lines_of}
use Rattle.lines.proofs.LineLaws.{lines_fit}
use native.Mathlib.Omega.{arith}
use Rattle.lines.proofs.program.print_lines.Goals as goal

pub returns : goal.returns
returns c =
    let a = numbered refusal_number c.args.a in
    let trace = c.args.trace.now in
    let out = c.args.out.now in
    let put = c.write_lines.ensures in
    let most = put.2 in
    let room : length (lines_of a trace) ≤ length out = omega (arith, c.told-out, c.told-trace) in
    let fit = lines_fit a trace out room in
    let long : c.unwrap_or.result ≡ length (lines_of a trace) = c.unwrap_or.ensures ∙ ap (λ r. result_unwrap_or r 0) (put.0 ∙ sym fit.0) in
    (long, put.1 ∙ sym fit.1 ∙ ap (λ n. lines_of a trace ++ drop n out) (sym long))
