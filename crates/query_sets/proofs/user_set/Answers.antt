use Rattle.std.proofs.Common.{rules, ◌∙◌}
use Rattle.query_sets.specs.FoundLaws.{collected, uses_is, uses_itself, uses_other}
use Rattle.query_sets.proofs.user_set.Goals as goal

pub returns : goal.returns
returns c = collected _ _ (c.those.ensures _ (λ k r l e. search (rules, uses_itself, uses_other))) ∙ uses_is _ _
