use Rattle.names.specs.Stored.{table_in}
use Rattle.session_rows.specs.RowLaws.{one_put, rows_none, rows_put}
use Rattle.session_rows.specs.Rows.{one_of}
use Rattle.session_rows.proofs.put_version.Goals as goal

pub returns-in-Some : goal.returns-in-Some
returns-in-Some c =
    rows_put _ (one_of (table_in c.args.vers.now)) _ c.in-Some.v c.in-Some.ensures.value c.in-Some.ensures.puts (one_put _ _ _ c.put_name_row.ensures)

pub returns-in_default : goal.returns-in_default
returns-in_default c = rows_none _ (one_of (table_in c.args.vers.now)) _ c.in_default.ensures.value c.in_default.ensures.puts
