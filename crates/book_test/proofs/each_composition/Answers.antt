use Rattle.std.proofs.Common.{rules}
use Rattle.book_rules.specs.CompositionLaws.{if_composed, of_system}
use Rattle.model.specs.Rules.{each_composition}
use Rattle.book_test.proofs.each_composition.Goals as goal

pub returns : goal.returns
unfolding each_composition of_system if_composed
returns g c = λ t h. c.all.ensures (of_system _ t) (λ s r l p. search rules)
