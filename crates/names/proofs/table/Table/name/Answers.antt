use Rattle.std.proofs.Common.{arith}
use Rattle.names.specs.RowLaws.{name_past, name_there}
use Rattle.names.proofs.table.Table.name.Goals as goal

pub returns-in-Some : goal.returns-in-Some
returns-in-Some g c =
    let l = c.in-Some.ensures.lookup in
    name_there _ _ _ _ _ c.name_of.ensures l.1 l.3.0 (omega (arith, l.3.0))

pub returns-in-None : goal.returns-in-None
returns-in-None g c = name_past _ _ _ (omega (arith, c.in-None.ensures.lookup.3))
