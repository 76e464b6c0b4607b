use Rattle.write_bytes.specs.WritesLaws.{writes_as}
use Rattle.write_version.specs.ListedLaws.{not_led}
use Rattle.write_version.proofs.put_names.Goals as goal

pub returns : goal.returns
returns g c = writes_as (not_led _ _ _) c.put_led.ensures
