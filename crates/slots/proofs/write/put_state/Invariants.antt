-- The invariant: the bytes of the first k tasks are stored.
use mathlib.Core.Path.{◌≡◌}
use lib.ListN.{length, get_or}
use lib.Seq.{sets}
use Rattle.tasks.specs.Words.{state_of}
use Rattle.states.specs.Bytes.{twos}
use Rattle.slots.proofs.write.put_state.Given as goal

abbrev pub invariant-loop-k : goal.invariant-loop-k
invariant-loop-k l = (l.part ≡ sets l.initial.part 0 (twos l.k (λ j. get_or (state_of l.v).c j 0) (λ j. get_or (state_of l.v).p j 0))) × (length l.part ≡ length l.initial.part)
