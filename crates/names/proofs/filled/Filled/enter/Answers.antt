use Rattle.names.specs.EnterLaws.{held_table}
use Rattle.names.proofs.filled.Filled.enter.Goals as goal

pub returns-in-Some-clause-names_after : goal.returns-in-Some-clause-names_after
returns-in-Some-clause-names_after g c = held_table _ _ _ _ _ c.lookup.ensures c.in-Some.is
