use Rattle.write_bytes.specs.WritesLaws.{writes_end}
use Rattle.write_bytes.proofs.writer.Writer.end_row.Goals as goal

pub returns : goal.returns
returns c = writes_end c.put.ensures
