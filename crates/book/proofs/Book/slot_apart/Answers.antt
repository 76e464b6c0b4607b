use Rattle.std.proofs.Common.{rules}
use Rattle.sets.specs.RangeLaws.{range_all}
use Rattle.book.specs.Plain.{slot_apart, slots_apart}
use Rattle.book.proofs.Book.slot_apart.Goals as goal

pub returns : goal.returns
unfolding slot_apart
returns c = range_all (slots_apart _ _ _) 8 c.all.ensures.ran (λ x b q k. search rules)
