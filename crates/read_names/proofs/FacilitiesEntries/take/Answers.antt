use Rattle.read_tokens.specs.TakeLaws.{facility_taken}
use Rattle.read_names.proofs.FacilitiesEntries.take.Goals as goal

pub returns : goal.returns
returns c = (facility_taken _ _ _ _ _ _ _ _ c.in_ok-f.ensures.0 c.with_facility.ensures, c.in_ok-f.ensures.1)
