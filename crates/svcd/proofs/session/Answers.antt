use Rattle.svcd.specs.LeavesLaws.{called}
use Rattle.svcd.proofs.session.Goals as goal

pub returns : goal.returns
returns c = called _ c.list.ensures c.ok_or-answer.ensures.value
