use Rattle.svcd.specs.LeavesLaws.{empty_fresh, empty_ready}
use Rattle.svcd.proofs.empty.Goals as goal

pub invariant_of-result : goal.invariant_of-result
invariant_of-result c = record { ready = empty_ready _ _ c.fresh.ensures c.empty.ensures }

pub returns : goal.returns
returns c = empty_fresh _ _ c.fresh.ensures c.empty.ensures
