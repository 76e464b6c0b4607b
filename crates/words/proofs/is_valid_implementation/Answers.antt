use Rattle.std.proofs.Common.{rules}
use Rattle.words.specs.NameLaws.{implementation_empty, implementation_long, implementation_is}
use Rattle.words.proofs.is_valid_implementation.Goals as goal

pub returns-then-is_empty : goal.returns-then-is_empty
returns-then-is_empty c = search (rules, implementation_empty, implementation_long)

pub returns : goal.returns
returns c = search (rules, implementation_is)
