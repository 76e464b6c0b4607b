use Rattle.read_sys.specs.SysLaws.{usable_taken}
use Rattle.read_sys.specs.SysSteps.{usable_state}
use Rattle.read_sys.proofs.UsableNamesEntries.take.Goals as goal

pub returns : goal.returns
unfolding usable_state
returns c = (usable_taken _ _ _ _ _ _ _ _ c.in_ok-c.ensures.0 c.with_usable_name.ensures, c.in_ok-c.ensures.1)
