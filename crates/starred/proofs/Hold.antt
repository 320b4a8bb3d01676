-- Every starred example is answered as document 01 says, and those of the later orders as they say: the checker computes both sides. What
-- it computes for a verdict is the verdict. Assumes nothing.
use Prim.Native.Nat.{ℕ, ◌≤◌}
use mathlib.Core.Path.{◌≡◌, refl}
use mathlib.Core.List.{List, ◌++◌, map}
use Rattle.lists.specs.Lists.{count, any}
use Rattle.tasks.specs.Table.{breaks, fault_at, table_fault}
use Rattle.tasks.specs.Number.{number_in, number_at}
use Rattle.tasks.specs.Refusals.{refusal_at}
use Rattle.tasks.specs.State.{started, keeps, late, improper_at, improper}
use Rattle.jobs.specs.Job.{job_key, job_age}
use Rattle.tasks.specs.Tick.{illegal_at, illegal, released_at, released, key, age, before, ahead, runs, chosen, ran_at, fallen, ran, after, missed, refusal, ticked}
use Rattle.tasks.specs.Answers.{number_answer, replay_figures, replay_answer}
use Rattle.tasks.specs.Replay.{played, replayed}
use Rattle.tasks.specs.declared.table.Table.{Table}
use Rattle.levels.specs.Verdict.{Answer, Verdict}
use Rattle.levels.specs.Compute.{computed}
use Rattle.levels.specs.Compute.Computed.{Answered}
use Rattle.states.specs.System.{step, system}
use Rattle.search.specs.Computed.{same_numbers, same_states, below, verdict_of}
use Rattle.search.proofs.ComputedLaws.{verdict_right}
use Rattle.starred.specs.Starred.{answer, starred, least_slack, by_age, Example}

pub starred_hold : map (λ (e : Example). answer e.asks) starred ≡ map (λ (e : Example). e.says) starred
unfolding computed step same_numbers same_states below verdict_of number_at number_in number_answer replay_figures replay_answer count any breaks fault_at table_fault started keeps late improper_at improper illegal_at illegal released_at released job_key key job_age age before ahead runs chosen ran_at fallen ran after missed refusal_at refusal ticked played replayed
starred_hold = refl

-- and what tells least slack from earliest deadline, and the age from the task number, is answered as said
pub orders_hold : map (λ (e : Example). answer e.asks) (least_slack ++ by_age) ≡ map (λ (e : Example). e.says) (least_slack ++ by_age)
unfolding computed step same_numbers same_states below verdict_of number_at number_in number_answer replay_figures replay_answer count any breaks fault_at table_fault started keeps late improper_at improper illegal_at illegal released_at released job_key key job_age age before ahead runs chosen ran_at fallen ran after missed refusal_at refusal ticked played replayed
orders_hold = refl

-- the verdicts computed are those of demand 3, for any table and any K from 1 on
pub starred_right : (t : Table) (K : ℕ) → 1 ≤ K → (a : Answer) (masks : List ℕ) → verdict_of t K ≡ Answered a masks → Verdict (system t) K a masks
starred_right = verdict_right
