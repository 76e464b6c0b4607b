use Rattle.std.proofs.Common.{rules}
use Rattle.commands.proofs.Tested.{refuse_none}
use Rattle.commands.proofs.del_mod.Goals as goal

pub returns-in_err-tested : goal.returns-in_err-tested
returns-in_err-tested c = refuse_none _ _ _ c.in_err-tested.field-0.0 _ (search rules) c.in_err-tested.ensures.value
