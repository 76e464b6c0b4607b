use Rattle.session_rows.specs.RowLaws.{row_missed, row_put}
use Rattle.session_rows.proofs.put_if_member.Goals as goal

pub returns-then-member : goal.returns-then-member
returns-then-member g c = row_put _ _ _ _ c.member.ensures c.if-member.true c.put_name_row.ensures

pub returns-else-member : goal.returns-else-member
returns-else-member g c = row_missed _ _ _ _ c.member.ensures _ c.if-member.false
