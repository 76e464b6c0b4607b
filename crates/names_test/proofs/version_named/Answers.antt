use Rattle.std.proofs.Common.{rules}
use Rattle.names_test.specs.NamedLaws.{version_is}
use Rattle.names_test.proofs.version_named.Goals as goal

pub returns : goal.returns
returns c = search (rules, version_is)
