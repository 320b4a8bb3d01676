-- A session for the plotter's C build (document 02, §8): a sheet, 145 lent bytes of session, and a mask or the number of a mark. What a
-- call does with them is Space.antt of `session_bytes`. The answer is kind × 2^48 + N: kind 1 done, kind 2 Missed, kind 0 refused with N
-- the refusal's number.
use Rattle.std.specs.Prelude.{ℕ, ◌*◌, ◌^◌, List, Result, Ok, Err}
use Rattle.tasks.specs.Refusals.{refusal_number}
use Rattle.tasks.specs.declared.refusal.Refusal.{Refusal}
use Rattle.tasks.specs.declared.tick.Step.{Step}
use Rattle.tasks.specs.declared.tick.Step.TheVariants.{Next, Missed}
use Rattle.session.specs.declared.calls.Call.{Call}
use Rattle.session_bytes.specs.Space.{sheet_call}

-- the number of each answer; N is 0 for the first two
abbrev pub session_number : Result Step Refusal → ℕ
session_number (Ok Next) = 2 ^ 48
session_number (Ok Missed) = 2 * 2 ^ 48
session_number (Err r) = refusal_number r

-- the number returned; the session's bytes afterwards are `sheet_space`
unfoldable pub call_number : List ℕ → List ℕ → Call → ℕ
call_number sheet session c = session_number (sheet_call sheet session c)
