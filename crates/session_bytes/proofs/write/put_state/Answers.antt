use Rattle.std.proofs.Common.{rules}
use Rattle.session_bytes.specs.Space.{place}
use Rattle.session_bytes.proofs.SpaceLaws.{state_put}
use native.Mathlib.Omega.{arith}
use Rattle.session_bytes.proofs.write.put_state.Goals as goal

pub returns : goal.returns
returns c =
    let a = c.args in
    state_put a.space.now (place a.j) a.state (search rules) (omega (arith, c.requires)) c.write_state.ensures.1
