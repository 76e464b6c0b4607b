use Rattle.std.proofs.Common.{◌∙◌}
use Rattle.sets.specs.Answered.{answered}
use Rattle.write_bytes.specs.ByNameLaws.{first_end, first_start, first_turn}
use Rattle.write_order.proofs.first_by_name.Goals as goal

pub loop-k-init : goal.loop-k-init
unfolding answered
loop-k-init g c = first_start _ _ _

pub loop-k-preserved : goal.loop-k-preserved
loop-k-preserved g c = c.first_with-best.ensures ∙ first_turn _ _ _ _ _ c.loop-k-test.true c.loop-k.auto.k c.loop-k.invariant

pub returns : goal.returns
returns g c = first_end _ _ _ _ _ c.loop-k-test.false c.loop-k.invariant
