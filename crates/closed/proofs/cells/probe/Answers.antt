use Rattle.closed.proofs.cells.probe.Goals as goal

pub returns-then-names : goal.returns-then-names
returns-then-names c =
    rw c.if-names.true at c.names.ensures
