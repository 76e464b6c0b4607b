use Rattle.write_bytes.specs.WritesLaws.{writes_pair_row}
use Rattle.write_bytes.proofs.writer.Writer.put_pair.Goals as goal

pub returns : goal.returns
returns c = writes_pair_row _ c.start_row.ensures c.put.ensures c.put-2.ensures c.put-3.ensures c.end_row.ensures
