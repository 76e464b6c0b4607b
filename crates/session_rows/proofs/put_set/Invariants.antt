use Rattle.std.proofs.Common.{map}
use Rattle.write_bytes.specs.WritesLaws.{WritesPartly}
use Rattle.names.specs.Stored.{table_in}
use Rattle.text.specs.Tables.{name_at}
use Rattle.session_rows.specs.Rows.{names_in, rows_of}
use Rattle.session_rows.specs.RowLaws.{numbers_from}
use Rattle.session_rows.proofs.put_set.Given as goal

abbrev pub invariant-loop-k : goal.invariant-loop-k
invariant-loop-k g l =
    WritesPartly (rows_of l.i (names_in (table_in l.names) l.set))
    (rows_of l.i (map (name_at (table_in l.names)) (numbers_from l.set l.k))) l.initial.writer l.writer
