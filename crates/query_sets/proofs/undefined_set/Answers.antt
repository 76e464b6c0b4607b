use Rattle.std.proofs.Common.{rules, ◌∙◌}
use Rattle.query_sets.specs.FoundLaws.{collected, undefined_is}
use Rattle.query_sets.proofs.undefined_set.Goals as goal

pub returns : goal.returns
returns c = collected _ _ (c.those.ensures _ (λ k r l e. search rules)) ∙ undefined_is _
