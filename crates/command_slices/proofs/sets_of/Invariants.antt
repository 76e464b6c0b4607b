use Rattle.std.proofs.Common.{[], length}
use Rattle.model.specs.Book.{facilities, versions}
use Rattle.model.specs.Lists.{set_of}
use Rattle.model.specs.Questions.{each_below}
use Rattle.command_lists.specs.Said.{always, facilities_said}
use Rattle.command_slices.specs.SliceLaws.{PairsLeft}
use Rattle.command_lists.specs.Views.{sets_view}
use Rattle.command_slices.proofs.sets_of.Given as goal

abbrev pub invariant-loop-v : goal.invariant-loop-v
invariant-loop-v l = PairsLeft versions (each_below facilities) always always set_of [] facilities_said sets_view l.versions l.required (length l.yielded) l.g
