use Rattle.book.specs.Plain.{plain}
use Rattle.command_candidates.specs.Completed.{RowsBefore}
use Rattle.command_lists.specs.Views.{compositions_view}
use Rattle.command_candidates.proofs.rows_of.Given as goal

abbrev pub invariant-loop-v : goal.invariant-loop-v
invariant-loop-v l = RowsBefore (plain l.passing.book.now).specs (compositions_view l.g).given l.rows l.v
