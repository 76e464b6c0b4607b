use Rattle.std.proofs.Common.{rules}
use Rattle.sets.specs.Tests.{◌or◌, ◌&◌, ◌≤?◌}
use Rattle.text.specs.Bytes.{alnum}
use Rattle.words.proofs.is_alnum.Goals as goal

pub returns : goal.returns
unfolding alnum ◌or◌ ◌&◌ ◌≤?◌
returns c = search rules
