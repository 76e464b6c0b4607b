use Rattle.std.proofs.Common.{rules}
use Rattle.book_rules.specs.RuleLaws.{provided_in, provided_out}
use Rattle.book_rules.proofs.provided_by.Goals as goal

pub returns : goal.returns
returns c = c.union_of.ensures _ (λ k r l e. search (rules, provided_in, provided_out))
