use Rattle.std.proofs.Common.{rules}
use Rattle.model.specs.Rules.{B8}
use Rattle.book_test.proofs.b8.Goals as goal

pub returns : goal.returns
unfolding B8
returns c = c.each_composition.ensures _ (λ s v r p. search rules)
