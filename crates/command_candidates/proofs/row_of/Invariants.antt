use Rattle.book.specs.Plain.{plain}
use Rattle.command_candidates.specs.Completed.{Filled, stored_in}
use Rattle.command_lists.specs.Views.{composition_of}
use Rattle.command_candidates.proofs.row_of.Given as goal

abbrev pub invariant-loop-m : goal.invariant-loop-m
invariant-loop-m l = Filled (stored_in (plain l.passing.book.now).specs (composition_of l.composition)) 32 l.place-items l.m
