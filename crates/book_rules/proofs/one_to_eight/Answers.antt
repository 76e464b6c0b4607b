use Rattle.std.proofs.Common.{rules}
use Rattle.sets.specs.RangeLaws.{range_all}
use Rattle.model.specs.Limits.{one_to_eight}
use Rattle.model.specs.Rules.{each_specified}
use Rattle.book_rules.specs.RuleLaws.{count_ok}
use Rattle.sets.specs.Tests.{◌⇒◌}
use Rattle.book_rules.proofs.one_to_eight.Goals as goal

pub returns : goal.returns
unfolding one_to_eight each_specified count_ok ◌⇒◌
returns c = range_all _ 32 c.all.ensures.ran (λ x b q e. search rules)
