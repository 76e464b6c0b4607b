use Rattle.std.proofs.Common.{◌∙◌, ap, sym}
use Rattle.command_candidates.specs.CompletedLaws.{rows_start, rows_with, rows_without}
use Rattle.command_lists.specs.Views.{maybe}
use Rattle.command_candidates.proofs.rows_of.Goals as goal
use Rattle.command_candidates.proofs.rows_of.Goals.{in-Some, in_default}

pub loop-v-init : goal.loop-v-init
loop-v-init c = rows_start _ _

pub loop-v-preserved : goal.loop-v-preserved
loop-v-preserved c = elim c.match-get.branch [
  | in-Some w ↦ rw w.rows-is (rows_with _ _ _ _ c.loop-v.invariant c.loop-v-test.true _ _ _ w.row_of.ensures w.put_row.ensures
      (ap maybe (sym w.in-Some.is) ∙ c.get.ensures))
  | in_default w ↦ rw w.rows-is (rows_without _ _ _ _ c.loop-v.invariant c.loop-v-test.true (ap maybe (sym w.in_default.is) ∙ c.get.ensures))
]
