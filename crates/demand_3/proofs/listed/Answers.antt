use Rattle.demand_3.specs.PartsLaws.{parts_given}
use Rattle.demand_3.proofs.listed.Goals as goal

pub returns : goal.returns
returns c good has_it = parts_given _ _ _ _ _ _ _ _ _ good has_it c.parts.ensures
