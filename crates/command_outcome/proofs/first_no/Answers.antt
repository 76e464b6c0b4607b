use Rattle.command_outcome.specs.AskedLaws.{asked_yes}
use Rattle.command_outcome.proofs.first_no.Goals as goal

pub loop-yes-preserved : goal.loop-yes-preserved
loop-yes-preserved c = asked_yes _ _ c.loop-yes.invariant _ c.loop-yes-test.true c.if-not-yes.false
