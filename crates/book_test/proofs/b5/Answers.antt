use Rattle.std.proofs.Common.{rules}
use Rattle.model.specs.Rules.{B5}
use Rattle.book_test.proofs.b5.Goals as goal

pub returns : goal.returns
unfolding B5
returns c = c.each_composition.ensures _ (λ s v r p. search rules)
