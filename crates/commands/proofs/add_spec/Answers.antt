use Rattle.std.proofs.Common.{rules}
use Rattle.command_outcome.specs.Calls.{command_of}
use Rattle.command_lists.specs.Said.{facilities_said, requirements_said}
use Rattle.command_slices.specs.SliceLaws.{said_below, said_set}
use Rattle.commands.proofs.Tested.{refuse_none}
use Rattle.commands.proofs.add_spec.Goals as goal

pub returns-in_err-tested : goal.returns-in_err-tested
returns-in_err-tested c = refuse_none _ _ _ c.in_err-tested.field-0.0 _ (search rules) c.in_err-tested.ensures.value

pub returns : goal.returns
unfolding command_of
returns c = c.add_spec_in.ensures (facilities_said _) (requirements_said _ _) (said_below _) (said_set _ (search rules)) c.sets_of-g.ensures
