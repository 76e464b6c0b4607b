use Rattle.std.proofs.Common.{refl}
use Rattle.sets.specs.Tests.{◌≤?◌, if?◌then◌else◌}
use Rattle.names.specs.Stored.{name_of}
use Rattle.names.specs.StoredLaws.{no_rows}
use Rattle.names.proofs.table.Table.empty.Goals as goal

pub returns : goal.returns
unfolding name_of if?◌then◌else◌ ◌≤?◌
returns g c = no_rows _ _ refl
