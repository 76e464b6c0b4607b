use Rattle.std.proofs.Common.{rules}
use Rattle.model.specs.Rules.{B6}
use Rattle.book_test.proofs.b6.Goals as goal

pub returns : goal.returns
unfolding B6
returns c = c.each_composition.ensures _ (λ s v r p. search rules)
