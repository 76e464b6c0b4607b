use Rattle.session_rows.specs.RowLaws.{pair_put}
use Rattle.session_rows.specs.Rows.{pair_tables}
use Rattle.text.specs.Session.{pair_row}
use Rattle.session_rows.proofs.put_pair.Goals as goal

pub returns : goal.returns
unfolding pair_row
returns c = pair_put _ (pair_tables c.args.comps.now c.args.vers.now) c.from-k.ensures c.put_pair_row.ensures
