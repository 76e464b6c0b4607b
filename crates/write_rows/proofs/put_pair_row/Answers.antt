use Rattle.std.specs.Prelude.{◌++◌}
use Rattle.std.proofs.Common.{rules}
use Rattle.text.specs.Bytes.{bytes}
use Rattle.text.specs.Session.{row}
use Rattle.text.specs.Tables.{name_at}
use Rattle.names.specs.Stored.{table_in}
use Rattle.write_rows.specs.RowLaws.{writes_two_names_as}
use Rattle.write_rows.proofs.put_pair_row.Goals as goal

pub put_rest-requires-clause-puts : goal.put_rest-requires-clause-puts
put_rest-requires-clause-puts c =
    let e = c.name-component.ensures in
    let f = c.name-version.ensures in (
      row c.args.i (name_at (table_in c.args.comps.now) c.args.c ++ (bytes "," ++ name_at (table_in c.args.vers.now) c.args.v)),
      λ a b k. writes_two_names_as _ e f (search rules),
    )

pub returns : goal.returns
returns c = c.put_rest.ensures _ (λ a b k. writes_two_names_as _ c.name-component.ensures c.name-version.ensures (search rules))
