use Rattle.std.proofs.Common.{◌∙◌, rules}
use Rattle.names_test.specs.NamedLaws.{none_is}
use Rattle.names_test.proofs.none_twice.Goals as goal

pub returns : goal.returns
returns g c = c.all.ensures _ (λ k r l p. search rules) ∙ none_is _ _
