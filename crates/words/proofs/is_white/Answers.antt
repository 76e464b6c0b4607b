use Rattle.std.proofs.Common.{rules}
use Rattle.sets.specs.Tests.{◌or◌, ◌=?◌}
use Rattle.text.specs.Bytes.{white}
use Rattle.words.proofs.is_white.Goals as goal

pub returns-in_default : goal.returns-in_default
unfolding white ◌or◌ ◌=?◌
returns-in_default c = search rules

pub returns-in_default-2 : goal.returns-in_default-2
unfolding white ◌or◌ ◌=?◌
returns-in_default-2 c = search rules

pub returns-in-32 : goal.returns-in-32
unfolding white ◌or◌ ◌=?◌
returns-in-32 c = search rules

pub returns-in-32-2 : goal.returns-in-32-2
unfolding white ◌or◌ ◌=?◌
returns-in-32-2 c = search rules
