use Rattle.std.proofs.Common.{rules}
use Rattle.names_test.specs.NamedLaws.{component_if_is}
use Rattle.names_test.proofs.components_named.Goals as goal

pub returns : goal.returns
returns c = c.all.ensures _ (λ k r l p. search (rules, component_if_is))
