use Rattle.std.proofs.Common.{arith, rules, tests}
use Rattle.std.specs.Prelude.{eqb, length}
use Rattle.std.proofs.lemmas.Iterator.{YieldsList-from_slice}
use Rattle.std.proofs.lemmas.Iterator.Search.{position_from_yields_List}
use Rattle.names.specs.Stored.{name_of}
use Rattle.names.specs.SearchLaws.{free_found}
use Rattle.names.proofs.table.Table.lowest_free.Goals as goal

pub returns : goal.returns
returns g c =
    free_found _ _ (omega arith) _
    (position_from_yields_List (λ row. eqb (length (name_of row)) 0) _ _ _ c.position.ensures.ran
    (YieldsList-from_slice c.args.self.now.rows (cc)) (λ x b q k. search (rules, tests)))
