use Rattle.std.proofs.Common.{rules}
use Rattle.command_lists.specs.MappedLaws.{usable_nothing}
use Rattle.command_slices.specs.SliceLaws.{usable_start, usable_turn, usable_end}
use Rattle.command_slices.proofs.usable_of.Goals as goal

pub loop-c-init : goal.loop-c-init
loop-c-init c = usable_start _ _ (usable_nothing _ c.none-g.ensures)

pub loop-c-preserved : goal.loop-c-preserved
loop-c-preserved c = search (rules, usable_turn)

pub returns : goal.returns
returns c = search (rules, usable_end)
