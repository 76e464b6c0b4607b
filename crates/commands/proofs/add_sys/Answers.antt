use Rattle.std.proofs.Common.{rules}
use Rattle.command_outcome.specs.Calls.{command_of}
use Rattle.command_lists.specs.Said.{compositions_said}
use Rattle.commands.proofs.Tested.{refuse_none}
use Rattle.commands.proofs.add_sys.Goals as goal

pub returns-in_err-tested : goal.returns-in_err-tested
returns-in_err-tested c = refuse_none _ _ _ c.in_err-tested.field-0.0 _ (search rules) c.in_err-tested.ensures.value

pub returns : goal.returns
unfolding command_of
returns c = c.add_sys_in.ensures _ (compositions_said _ _ _ _) c.usable_of-u.ensures c.compositions_of-g.ensures
