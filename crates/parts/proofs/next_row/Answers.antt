use Rattle.std.proofs.Common.{rules}
use Rattle.model.specs.PartsList.{first_pair}
use Rattle.parts.specs.Due.{first_version}
use Rattle.parts.specs.DueLaws.{pair_bounds}
use Rattle.parts.proofs.next_row.Goals as goal

pub returns-clause-value : goal.returns-clause-value
unfolding first_pair first_version
returns-clause-value c = c.first.ensures _ (λ k r l e. search rules)

pub returns-clause-in_bounds : goal.returns-clause-in_bounds
returns-clause-in_bounds c = pair_bounds _ _ (returns-clause-value c)
