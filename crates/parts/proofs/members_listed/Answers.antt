use Rattle.std.proofs.Common.{rules}
use Rattle.sets.specs.RangeLaws.{range_all}
use Rattle.parts.specs.Due.{members_in}
use Rattle.parts.proofs.members_listed.Goals as goal

pub returns : goal.returns
unfolding members_in
returns c = range_all _ 32 c.all.ensures.ran (λ x b q e. search rules)
