use Rattle.std.proofs.Common.{rules}
use Rattle.sets.specs.RangeLaws.{range_all}
use Rattle.book_rules.specs.RuleLaws.{unspecified_is}
use Rattle.book_test.proofs.none_specified.Goals as goal

pub returns : goal.returns
returns c = range_all _ 32 c.all.ensures.ran (λ x b q e. search (rules, unspecified_is))
