use Rattle.text.specs.Bytes.{bytes}
use Rattle.write_bytes.specs.WritesLaws.{writes_as, writes_then}
use Rattle.write_version.specs.PieceLaws.{spec_version_is}
use Rattle.write_version.proofs.put_spec_version.Goals as goal

pub returns : goal.returns
unfolding bytes
returns c =
    writes_as (spec_version_is _ _ _ _ _ _ _ c.name-word.ensures c.standard.ensures c.name-standard.ensures c.eq.ensures c.required.ensures)
    (writes_then c.put_if.ensures (writes_then c.put.ensures c.put_required.ensures))
