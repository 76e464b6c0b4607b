use Rattle.std.proofs.Common.{rules, ◌∙◌}
use Rattle.query_sets.specs.FoundLaws.{collected, unused_is, unused_last, unused_no}
use Rattle.query_sets.proofs.unused_set.Goals as goal

pub returns : goal.returns
returns c = collected _ _ (c.those.ensures _ (λ k r l e. search (rules, unused_no, unused_last))) ∙ unused_is _
