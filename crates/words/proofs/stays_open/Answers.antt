use Rattle.std.proofs.Common.{rules}
use Rattle.sets.specs.Tests.{~◌, ◌=?◌}
use Rattle.words.specs.Reading.{stays_open}
use Rattle.words.proofs.stays_open.Goals as goal

pub returns-then-inside : goal.returns-then-inside
unfolding stays_open ~◌ ◌=?◌
returns-then-inside c = search rules

pub returns-else-inside : goal.returns-else-inside
unfolding stays_open ~◌ ◌=?◌
returns-else-inside c = search rules
