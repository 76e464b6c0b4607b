use Rattle.write_bytes.specs.WritesLaws.{writes_row}
use Rattle.write_bytes.proofs.writer.Writer.put_answer.Goals as goal

pub returns : goal.returns
returns c = writes_row _ c.start_row.ensures c.put_number.ensures c.end_row.ensures
