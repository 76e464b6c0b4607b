use Rattle.write_bytes.specs.WritesLaws.{writes_row}
use Rattle.write_bytes.proofs.writer.Writer.put_name.Goals as goal

pub returns : goal.returns
returns c = writes_row _ c.start_row.ensures c.put.ensures c.end_row.ensures
