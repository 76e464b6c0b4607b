use Rattle.std.proofs.Common.{◌∙◌, ap}
use Rattle.model.specs.Lists.{every, non_empty}
use Rattle.text_laws.specs.TextLaws.{every-none}
use Rattle.names.proofs.filled.Filled.empty.Goals as goal

pub invariant_of-result : goal.invariant_of-result
invariant_of-result g c =
    record { kept = record { held = ap (every non_empty) c.empty.ensures ∙ every-none non_empty } }
