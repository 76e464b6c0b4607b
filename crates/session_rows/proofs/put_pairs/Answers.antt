use Rattle.session_rows.specs.RowLaws.{pairs_end, pairs_start, pairs_turn}
use Rattle.session_rows.proofs.put_pairs.Goals as goal

pub loop-pair-init : goal.loop-pair-init
loop-pair-init c = pairs_start _ _ _ _

pub loop-pair-preserved : goal.loop-pair-preserved
loop-pair-preserved c = pairs_turn _ _ _ _ c.loop-pair.invariant c.loop-pair-test.true c.put_pair.ensures

pub returns : goal.returns
returns c = pairs_end _ _ _ _ c.loop-pair.invariant c.loop-pair-test.false
