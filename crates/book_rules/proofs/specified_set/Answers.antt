use Rattle.std.proofs.Common.{rules}
use Rattle.book_rules.specs.RuleLaws.{specified_below}
use Rattle.book_rules.proofs.specified_set.Goals as goal

pub returns : goal.returns
returns c = specified_below _ _ _ (c.those.ensures _ (λ k r l e. search rules))
