use Rattle.write_bytes.specs.WritesLaws.{WritesPartly}
use Rattle.session_rows.specs.Rows.{pair_tables, pairs_in, rows_of}
use Rattle.session_rows.specs.RowLaws.{pairs_from}
use Rattle.session_rows.proofs.put_pairs.Given as goal

abbrev pub invariant-loop-pair : goal.invariant-loop-pair
invariant-loop-pair l =
    WritesPartly (rows_of l.i (pairs_in (pair_tables l.comps l.vers) l.pairs)) (pairs_from l.i (pair_tables l.comps l.vers) l.pairs l.pair-index)
    l.initial.writer l.writer
