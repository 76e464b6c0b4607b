use Rattle.std.proofs.Common.{rules}
use Rattle.sets.specs.Tests.{◌or◌, ◌=?◌}
use Rattle.text.specs.Bytes.{impl_byte, name_byte}
use Rattle.words.specs.Reading.{in_run}
use Rattle.words.proofs.is_in_run.Goals as goal

pub returns-then-matches : goal.returns-then-matches
unfolding in_run impl_byte name_byte ◌or◌ ◌=?◌
returns-then-matches c = search rules

pub returns-in-46 : goal.returns-in-46
unfolding in_run impl_byte name_byte ◌or◌ ◌=?◌
returns-in-46 c = search rules

pub returns-in_default-matches : goal.returns-in_default-matches
unfolding in_run impl_byte name_byte ◌or◌ ◌=?◌
returns-in_default-matches c = search rules

pub returns-in_default-matches-2 : goal.returns-in_default-matches-2
unfolding in_run impl_byte name_byte ◌or◌ ◌=?◌
returns-in_default-matches-2 c = search rules

pub returns-else-quoted : goal.returns-else-quoted
unfolding in_run impl_byte name_byte ◌or◌ ◌=?◌
returns-else-quoted c = search rules
