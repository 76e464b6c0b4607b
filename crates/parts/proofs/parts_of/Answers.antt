use Rattle.parts.specs.MarkLaws.{closed_start, good_book, marks_are, stored_low}
use Rattle.parts.proofs.parts_of.Goals as goal

pub mark-requires-clause-c_bound : goal.mark-requires-clause-c_bound
mark-requires-clause-c_bound c = stored_low _ _ _ _ c.args.passing.passes c.requires

pub mark-requires-clause-closed : goal.mark-requires-clause-closed
mark-requires-clause-closed c = closed_start _

pub returns : goal.returns
returns c = marks_are _ _ _ _ (good_book _ _ c.args.passing.passes) c.requires c.mark.ensures
