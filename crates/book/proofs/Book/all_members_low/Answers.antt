use Rattle.std.proofs.Common.{rules}
use Rattle.sets.specs.RangeLaws.{range_all}
use Rattle.book.specs.Plain.{members_low}
use Rattle.book.proofs.Book.all_members_low.Goals as goal

pub returns : goal.returns
returns c = range_all (members_low _ _ _) 8 c.all.ensures.ran (λ x b q k. search rules)
