use Rattle.text.specs.Bytes.{bytes}
use Rattle.write_bytes.specs.WritesLaws.{writes_as, writes_then}
use Rattle.write_version.specs.PieceLaws.{mod_version_is}
use Rattle.write_version.proofs.put_mod_version.Goals as goal

pub returns : goal.returns
unfolding bytes
returns c =
    writes_as (mod_version_is _ _ _ _ _ _ _ _ c.name.ensures c.implementation.ensures c.unwrap_or-i.ensures c.from.ensures c.name-2.ensures)
    (writes_then c.put.ensures (writes_then c.put-2.ensures (writes_then c.put-3.ensures c.put-4.ensures)))
