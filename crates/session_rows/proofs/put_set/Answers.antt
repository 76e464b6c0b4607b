use Rattle.session_rows.specs.RowLaws.{set_end, set_start, set_turn}
use Rattle.session_rows.proofs.put_set.Goals as goal

pub loop-k-init : goal.loop-k-init
loop-k-init g c = set_start _ _ _ _

pub loop-k-preserved : goal.loop-k-preserved
loop-k-preserved g c = set_turn _ _ _ _ c.loop-k.invariant c.loop-k-test.true c.put_if_member.ensures

pub returns : goal.returns
returns g c = set_end _ _ _ _ c.loop-k.invariant c.loop-k-test.false
