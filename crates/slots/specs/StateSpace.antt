-- A state written alone, to a space that may be too short for it (document 01, "Refusals by cause": 12).
use Rattle.std.specs.Prelude.{List, ◌++◌, ℕ, ltb, length, drop}
use Rattle.lists.specs.Lists.{pick}
use Rattle.std.specs.Prelude.{Result, Ok, Err}
use Rattle.tasks.specs.declared.refusal.Refusal.TheVariants.{ShortOutput}
use Rattle.tasks.specs.declared.refusal.Refusal.{Refusal}
use Rattle.tasks.specs.declared.state.State.{State}
use Rattle.states.specs.Bytes.{state_bytes}

-- the answer
abbrev pub state_writing : List ℕ → Result ℕ Refusal
state_writing out = pick (ltb (length out) 16) (Err ShortOutput) (Ok 16)

-- .. and the space afterwards: the state's bytes at its front, later bytes as they were; a refusal leaves all
unfoldable pub state_space : State → List ℕ → List ℕ
state_space s out = pick (ltb (length out) 16) out (state_bytes s ++ drop 16 out)
