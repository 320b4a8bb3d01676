-- A state in eight words, one a task: c + 256 p, which is the number of its two bytes in a slot, low byte first (document 01,
-- "The search").
use Rattle.std.specs.Prelude.{ℕ, ◌+◌, ◌*◌, ◌/◌, ◌%◌, List, get_or}
use Rattle.lists.specs.Lists.{eight}
use Rattle.tasks.specs.declared.state.State.{State}

unfoldable pub words_of : State → List ℕ
words_of s = eight (λ i. get_or s.c i 0 + 256 * get_or s.p i 0)

unfoldable pub state_of : List ℕ → State
state_of v = record { c = eight (λ i. get_or v i 0 % 256); p = eight (λ i. get_or v i 0 / 256) }
