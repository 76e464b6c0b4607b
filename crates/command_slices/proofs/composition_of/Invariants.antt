use Rattle.std.proofs.Common.{length}
use mathlib.Core.Option.{none}
use Rattle.model.specs.Book.{components}
use Rattle.command_lists.specs.Said.{always, is_version_or_none, itself, version_said}
use Rattle.command_slices.specs.SliceLaws.{PairsLeft}
use Rattle.command_lists.specs.Views.{composition_view}
use Rattle.command_slices.proofs.composition_of.Given as goal

abbrev pub invariant-loop-m : goal.invariant-loop-m
invariant-loop-m l = PairsLeft components is_version_or_none always always itself none version_said composition_view l.members l.versions (length l.yielded) l.g
