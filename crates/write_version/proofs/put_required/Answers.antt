use Rattle.text.specs.Bytes.{bytes}
use Rattle.write_bytes.specs.WritesLaws.{writes_as}
use Rattle.write_version.specs.PieceLaws.{required_is}
use Rattle.write_version.proofs.put_required.Goals as goal

pub returns : goal.returns
unfolding bytes
returns c = writes_as (required_is _ _) c.put_led.ensures
