use Rattle.session_rows.specs.RowLaws.{rows_none, rows_put}
use Rattle.session_rows.specs.Rows.{listed_in, pair_tables}
use Rattle.session_rows.proofs.put_listed.Goals as goal

pub returns-in-Some : goal.returns-in-Some
unfolding listed_in
returns-in-Some c =
    rows_put _ (listed_in (pair_tables c.args.comps.now c.args.vers.now)) _ c.in-Some.pairs c.in-Some.ensures.value c.in-Some.ensures.puts c.put_pairs.ensures

pub returns-in_default : goal.returns-in_default
returns-in_default c = rows_none _ (listed_in (pair_tables c.args.comps.now c.args.vers.now)) _ c.in_default.ensures.value c.in_default.ensures.puts
