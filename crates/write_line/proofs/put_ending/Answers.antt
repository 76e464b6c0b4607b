use Rattle.text.specs.Bytes.{bytes}
use Rattle.write_bytes.specs.WritesLaws.{writes_as, writes_then}
use Rattle.write_line.specs.Lines.{ending}
use Rattle.write_version.specs.ListedLaws.{listed_is}
use Rattle.write_line.proofs.put_ending.Goals as goal

pub returns : goal.returns
unfolding bytes ending
returns g c = λ f h.
    writes_then c.put.ensures (writes_then (writes_as (listed_is _ f _ _ _) (c.put_listed.ensures f h)) c.put-2.ensures)
