use Rattle.std.proofs.Common.{rules}
use Rattle.sets.specs.RangeLaws.{range_all}
use Rattle.model.specs.Rules.{B1, each_specified}
use Rattle.sets.specs.Tests.{◌⇒◌}
use Rattle.book_rules.proofs.b1.Goals as goal

pub returns : goal.returns
unfolding B1 each_specified ◌⇒◌
returns c = range_all _ 32 c.all.ensures.ran (λ x b q e. search rules)
