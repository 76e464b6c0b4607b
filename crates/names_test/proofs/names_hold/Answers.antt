use Rattle.std.proofs.Common.{rules}
use Rattle.names_test.specs.NamedLaws.{hold_is}
use Rattle.names_test.proofs.names_hold.Goals as goal

pub returns : goal.returns
returns c = search (rules, hold_is)
