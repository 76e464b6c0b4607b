use Rattle.std.proofs.Common.{length}
use Rattle.model.specs.Book.{versions}
use Rattle.command_lists.specs.Said.{always, is_implementation, itself}
use Rattle.command_slices.specs.SliceLaws.{PairsLeft}
use Rattle.command_lists.specs.Views.{numbers_view}
use Rattle.command_slices.proofs.numbers_of.Given as goal

abbrev pub invariant-loop-v : goal.invariant-loop-v
invariant-loop-v l = PairsLeft versions is_implementation always always itself 0 itself numbers_view l.versions l.implementations (length l.yielded) l.g
