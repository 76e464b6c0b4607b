use Rattle.std.proofs.Common.{rules}
use Rattle.sets.specs.RangeLaws.{range_all}
use Rattle.book_rules.specs.RuleLaws.{own_free_lem, own_absent}
use Rattle.book_rules.proofs.all_own_free.Goals as goal

pub returns : goal.returns
returns c = range_all _ 64 c.all.ensures.ran (λ x b q e. search (rules, own_free_lem, own_absent))
