use Rattle.std.proofs.Common.{rules}
use Rattle.sets.specs.Tests.{◌or◌, ◌=?◌}
use Rattle.words.specs.Reading.{passes}
use Rattle.words.proofs.does_pass.Goals as goal

pub returns-then-is_white : goal.returns-then-is_white
unfolding passes ◌or◌ ◌=?◌
returns-then-is_white c = search rules

pub returns-else-is_white : goal.returns-else-is_white
unfolding passes ◌or◌ ◌=?◌
returns-else-is_white c = search rules
