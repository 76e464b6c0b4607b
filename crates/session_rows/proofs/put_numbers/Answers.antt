use Rattle.names.specs.Stored.{table_in}
use Rattle.session_rows.specs.RowLaws.{rows_none, rows_put}
use Rattle.session_rows.specs.Rows.{names_in}
use Rattle.session_rows.proofs.put_numbers.Goals as goal

pub returns-in-Some : goal.returns-in-Some
returns-in-Some g c =
    rows_put _ (names_in (table_in c.args.names.now)) _ c.in-Some.set c.in-Some.ensures.value c.in-Some.ensures.puts c.put_set.ensures

pub returns-in_default : goal.returns-in_default
returns-in_default g c = rows_none _ (names_in (table_in c.args.names.now)) _ c.in_default.ensures.value c.in_default.ensures.puts
