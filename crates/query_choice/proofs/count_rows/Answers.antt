use Rattle.std.proofs.Common.{rules, arith, ◌*◌, ◌+◌}
use Rattle.query_replies.specs.Found.{row_in}
use Rattle.query_replies.specs.RowLaws.{rows_counted}
use Rattle.sets.specs.LoopLaws.{count_end, count_start}
use Rattle.sets.specs.TestLaws.{count_le}
use Rattle.query_choice.proofs.count_rows.Goals as goal

pub loop-versions-init : goal.loop-versions-init
loop-versions-init c = (search rules, count_start _)

pub overflow_add-found : goal.overflow_add-found
overflow_add-found c =
    let e = rows_counted _ _ _ _ c.loop-versions.invariant.1 c.count.ensures in
    let l = count_le ((c.loop-versions.versions-index + 1) * 64) (row_in c.args.chosen.now) in
    omega arith

pub loop-versions-preserved : goal.loop-versions-preserved
loop-versions-preserved c = (omega arith, rows_counted _ _ _ _ c.loop-versions.invariant.1 c.count.ensures)

pub returns : goal.returns
returns c = count_end 2048 _ _ _ (omega arith) (omega arith) c.loop-versions.invariant.1
