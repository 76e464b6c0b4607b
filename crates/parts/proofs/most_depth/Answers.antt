use Rattle.std.proofs.Common.{rules, ap, ◌∙◌, ◌+◌, ℕ}
use Rattle.model.specs.PartsList.{how_many_systems}
use Rattle.parts.specs.ListedLaws.{systems_counted}
use Rattle.parts.proofs.most_depth.Goals as goal

pub returns : goal.returns
unfolding how_many_systems
returns c = ap (λ (i : ℕ). i + 1) (c.count.ensures ∙ systems_counted _ _ (c.those-systems.ensures _ (λ k r l e. search rules)))
