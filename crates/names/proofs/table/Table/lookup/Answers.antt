use Rattle.std.proofs.Common.{arith, rules, tests}
use Rattle.std.proofs.lemmas.Iterator.{YieldsList-from_slice}
use Rattle.std.proofs.lemmas.Iterator.Search.{position_from_yields_List}
use Rattle.std.specs.Str.{bytes_eq}
use Rattle.names.specs.Stored.{name_of}
use Rattle.names.specs.SearchLaws.{place_found}
use Rattle.names.proofs.table.Table.lookup.Goals as goal

pub returns : goal.returns
returns g c =
    place_found _ _ (omega arith) _ c.requires _
    (position_from_yields_List (λ row. bytes_eq c.args.word.now (name_of row)) _ _ _ c.position.ensures.ran
    (YieldsList-from_slice c.args.self.now.rows (cc)) (λ x b q k. search (rules, tests)))
