use Rattle.std.proofs.Common.{rules}
use Rattle.tasks.specs.Table.{fault_at}
use Rattle.tasks.proofs.table.Table.any_fault.Goals as goal

pub returns : goal.returns
returns c = c.any_place.ensures (fault_at c.args.self) (λ i b h k. search rules)
