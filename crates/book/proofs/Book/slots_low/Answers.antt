use Rattle.std.proofs.Common.{rules}
use Rattle.sets.specs.RangeLaws.{range_all}
use Rattle.sets.specs.Tests.{◌≤?◌}
use Rattle.book.specs.Plain.{slot_low}
use Rattle.book.proofs.Book.slots_low.Goals as goal

pub returns : goal.returns
unfolding slot_low ◌≤?◌
returns c = range_all (slot_low _ _) 8 c.all.ensures.ran (λ x b q k. search rules)
