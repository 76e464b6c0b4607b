use Rattle.std.proofs.Common.{rules}
use Rattle.sets.specs.RangeLaws.{range_all}
use Rattle.model.specs.Rules.{B3, each_system}
use Rattle.sets.specs.Tests.{◌⇒◌}
use Rattle.book_rules.proofs.b3.Goals as goal

pub returns : goal.returns
unfolding B3 each_system ◌⇒◌
returns c = range_all _ 32 c.all.ensures.ran (λ x b q e. search rules)
