use Rattle.std.proofs.Common.{rules}
use Rattle.sets.specs.RangeLaws.{range_all}
use Rattle.model.specs.Rules.{B2}
use Rattle.book_rules.proofs.b2.Goals as goal

pub returns : goal.returns
unfolding B2
returns c = range_all _ 32 c.all.ensures.ran (λ x b q e. search rules)
