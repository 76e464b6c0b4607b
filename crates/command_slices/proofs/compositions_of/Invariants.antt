use Rattle.std.proofs.Common.{◌≤◌, length}
use Rattle.command_slices.specs.SliceLaws.{CompositionsLeft}
use Rattle.command_slices.proofs.compositions_of.Given as goal

abbrev pub invariant-loop-v : goal.invariant-loop-v
invariant-loop-v l = (l.a ≤ length l.members) × (l.a ≤ length l.chosen) × CompositionsLeft l.versions l.lengths l.members l.chosen (length l.yielded) l.a l.g
