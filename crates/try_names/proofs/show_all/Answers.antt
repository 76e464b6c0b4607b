use Rattle.std.proofs.Common.{rules}
use Rattle.model.specs.Lists.{non_empty}
use Rattle.sets.specs.Tests.{◌&◌, ◌≤?◌}
use Rattle.text.specs.Bytes.{short}
use Rattle.try_names.proofs.show_all.Goals as goal

pub enter-requires : goal.enter-requires
unfolding short non_empty ◌&◌ ◌≤?◌
enter-requires c = search rules

pub enter-requires-2 : goal.enter-requires-2
unfolding short non_empty ◌&◌ ◌≤?◌
enter-requires-2 c = search rules

pub enter-requires-3 : goal.enter-requires-3
unfolding short non_empty ◌&◌ ◌≤?◌
enter-requires-3 c = search rules

pub enter-requires-4 : goal.enter-requires-4
unfolding short non_empty ◌&◌ ◌≤?◌
enter-requires-4 c = search rules

pub enter-requires-5 : goal.enter-requires-5
unfolding short non_empty ◌&◌ ◌≤?◌
enter-requires-5 c = search rules

pub lookup-requires : goal.lookup-requires
unfolding short non_empty ◌&◌ ◌≤?◌
lookup-requires c = search rules

pub lookup-requires-2 : goal.lookup-requires-2
unfolding short non_empty ◌&◌ ◌≤?◌
lookup-requires-2 c = search rules
