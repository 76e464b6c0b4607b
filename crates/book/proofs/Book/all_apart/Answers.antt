use Rattle.std.proofs.Common.{rules}
use Rattle.sets.specs.RangeLaws.{range_all}
use Rattle.book.specs.Plain.{slot_apart}
use Rattle.book.proofs.Book.all_apart.Goals as goal

pub returns : goal.returns
returns c = range_all (slot_apart _ _) 8 c.all.ensures.ran (λ x b q k. search rules)
