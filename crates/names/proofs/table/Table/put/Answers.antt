use Rattle.std.proofs.Common.{arith}
use Rattle.names.specs.StoredLaws.{row_put}
use Rattle.names.proofs.table.Table.put.Goals as goal

pub returns : goal.returns
returns g c =
    let p = c.requires in
    row_put _ _ _ _ _ (omega arith) p.k_lt_places p.k_value p.word_value c.row_of.ensures
