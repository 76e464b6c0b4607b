use Rattle.std.proofs.Common.{rules}
use Rattle.sets.specs.RangeLaws.{range_all}
use Rattle.book.specs.Plain.{proper, proper_if}
use Rattle.book.proofs.Book.is_proper.Goals as goal

pub returns : goal.returns
unfolding proper
returns c = range_all (proper_if _ _) 32 c.all.ensures.ran (λ x b q k. search rules)
