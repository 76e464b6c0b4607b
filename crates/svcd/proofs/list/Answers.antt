use Rattle.std.proofs.Common.{refl}
use Rattle.svcd.specs.LeavesLaws.{left_all, left_none}
use Rattle.svcd.proofs.list.Goals as goal

pub returns-in_default : goal.returns-in_default
returns-in_default c = left_none c.in_default.ensures refl c.empty-in_default.ensures c.clear.ensures

pub returns : goal.returns
returns c = left_all c.in-Some.ensures refl
