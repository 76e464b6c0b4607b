use Rattle.std.proofs.Common.{rules}
use Rattle.sets.specs.RangeLaws.{range_all}
use Rattle.book_rules.specs.RuleLaws.{bare_is}
use Rattle.book_rules.proofs.all_bare.Goals as goal

pub returns : goal.returns
returns c = range_all _ 64 c.all.ensures.ran (λ x b q e. search (rules, bare_is))
