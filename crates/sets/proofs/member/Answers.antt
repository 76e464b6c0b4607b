use Rattle.std.proofs.Common.{rules}
use Rattle.sets.specs.SetLaws.{bit_past}
use Rattle.sets.specs.Sets.{bit}
use Rattle.sets.specs.Tests.{◌=?◌}
use Rattle.sets.proofs.member.Goals as goal

pub returns-then-f-lt64 : goal.returns-then-f-lt64
unfolding bit ◌=?◌
returns-then-f-lt64 c = search rules

pub returns-else-f-lt64 : goal.returns-else-f-lt64
returns-else-f-lt64 c = search (rules, bit_past)
