use Rattle.write_bytes.specs.WritesLaws.{writes_start}
use Rattle.write_bytes.proofs.writer.Writer.start_row.Goals as goal

pub returns : goal.returns
returns c = writes_start _ c.put_number.ensures c.put.ensures
