use Rattle.std.proofs.Common.{rules}
use Rattle.query_sets.specs.FoundLaws.{used_is}
use Rattle.query_sets.proofs.used_set.Goals as goal

pub returns : goal.returns
returns c = used_is _ _ (c.union_of.ensures _ (λ k r l e. search rules))
