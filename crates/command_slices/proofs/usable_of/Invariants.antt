use Rattle.command_slices.specs.SliceLaws.{UsableLeft}
use Rattle.command_slices.proofs.usable_of.Given as goal

abbrev pub invariant-loop-c : goal.invariant-loop-c
invariant-loop-c l = UsableLeft l.components l.c-index l.g
