use Rattle.sets.specs.Tests.{◌&◌, ~◌}
use Rattle.write_book.specs.SystemLaws.{is_next_lem}
use Rattle.write_book.proofs.is_next.Goals as goal

pub returns : goal.returns
unfolding ◌&◌ ~◌
returns c = is_next_lem _ _ _ c.requires c.usable.ensures c.minus-left.ensures c.member.ensures c.disjoint.ensures
