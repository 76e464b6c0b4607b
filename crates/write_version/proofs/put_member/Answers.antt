use Rattle.text.specs.Bytes.{bytes}
use Rattle.write_bytes.specs.WritesLaws.{writes_as, writes_then}
use Rattle.write_version.specs.PieceLaws.{member_is}
use Rattle.write_version.proofs.put_member.Goals as goal

pub returns : goal.returns
unfolding bytes
returns c =
    writes_as (member_is _ _ _ _ _ _ _ _ c.name.ensures c.member_version-w.ensures c.name-2.ensures)
    (writes_then c.put.ensures (writes_then c.put-2.ensures c.put-3.ensures))
