use Rattle.std.proofs.Common.{rules}
use Rattle.sets.specs.RangeLaws.{range_all}
use Rattle.book_rules.specs.CompositionLaws.{wanted_skip, wanted_is}
use Rattle.book_compositions.proofs.all_wanted.Goals as goal

pub returns : goal.returns
returns c = range_all _ 32 c.all.ensures.ran (λ x b q e. search (rules, wanted_skip, wanted_is))
