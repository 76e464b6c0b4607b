use Rattle.std.proofs.Common.{rules}
use Rattle.text.specs.Session.{row}
use Rattle.text.specs.Tables.{name_at}
use Rattle.names.specs.Stored.{table_in}
use Rattle.write_rows.specs.RowLaws.{writes_row_as}
use Rattle.write_rows.proofs.put_name_row.Goals as goal

pub put_rest-requires-clause-puts : goal.put_rest-requires-clause-puts
put_rest-requires-clause-puts g c =
    (row c.args.i (name_at (table_in c.args.table.now) c.args.k), λ a b k. writes_row_as _ c.name-word.ensures (search rules))

pub returns : goal.returns
returns g c = c.put_rest.ensures _ (λ a b k. writes_row_as _ c.name-word.ensures (search rules))
