use Rattle.std.proofs.Common.{rules}
use Rattle.parts.specs.ListedLaws.{untested}
use Rattle.parts.proofs.parts.Goals as goal

pub returns-in_err-book : goal.returns-in_err-book
returns-in_err-book c = untested _ _ _ _ _ _ _ _ (search rules) (search rules) (search rules) (search rules)
