-- The file of a Safe search (document 02, §1, "the states of any Safe search, copied out"). Its states stand in the first column of the
-- work space (§6), so the front of the work space is that file, and nothing is copied. What a file is accepted for stands in Closed.antt
-- of `closed`.
use Rattle.std.specs.Prelude.{List, ℕ, ◌*◌, ◌<◌, take}
use Rattle.tasks.specs.declared.state.State.{State}
use Rattle.levels.specs.Verdict.{Holds}
use Rattle.states.specs.Bytes.{state_in}
use Rattle.closed.specs.Closed.{states_in, Contains}

-- the states of the first n slots, 16 bytes each, in the order of the slots
abbrev pub file_of : List ℕ → ℕ → List ℕ
file_of work n = take (16 * n) work

-- a file, whoever made it, that has exactly the states of n slots, "in any sequence, repeats allowed"; at i is the state of slot i
pub record HasStates (at : ℕ → State) (n : ℕ) (file : List ℕ) : Type 0 where
  pub only : (i : ℕ) → i < states_in file → Holds at n (state_in file i)
  pub all : (j : ℕ) → j < n → Contains file (at j)
