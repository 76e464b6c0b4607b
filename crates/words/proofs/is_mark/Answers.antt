use Rattle.std.proofs.Common.{rules}
use Rattle.sets.specs.Tests.{◌or◌, ◌=?◌}
use Rattle.text.specs.Bytes.{is_mark}
use Rattle.words.proofs.is_mark.Goals as goal

pub returns-in_default : goal.returns-in_default
unfolding is_mark ◌or◌ ◌=?◌
returns-in_default c = search rules

pub returns-in-59 : goal.returns-in-59
unfolding is_mark ◌or◌ ◌=?◌
returns-in-59 c = search rules
