use Rattle.write_bytes.specs.DecimalLaws.{last_digit, one_digit}
use Rattle.write_bytes.proofs.writer.Writer.+put_number.Goals as goal
use Rattle.write_bytes.proofs.writer.Writer.+put_number.Goals.{then-n-ge10, else-n-ge10}

pub returns : goal.returns
returns t c = elim c.if-n-ge10.branch [
  | then-n-ge10 w ↦ last_digit _ w.if-n-ge10.true w.put_number.ensures w.self-is c.put_byte.ensures
  | else-n-ge10 w ↦ one_digit _ w.if-n-ge10.false w.self-is c.put_byte.ensures
]
