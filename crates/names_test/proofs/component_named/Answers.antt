use Rattle.std.proofs.Common.{rules}
use Rattle.names_test.specs.NamedLaws.{component_is}
use Rattle.names_test.proofs.component_named.Goals as goal

pub returns : goal.returns
returns c = search (rules, component_is)
