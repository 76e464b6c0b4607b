use Rattle.std.proofs.Common.{◌≤◌}
use Rattle.book.specs.Plain.{plain_of, systems_of}
use Rattle.parts.specs.Marks.{PartsIn}
use Rattle.parts.specs.Rows.{RowsTo}
use Rattle.parts.proofs.rows_of.Given as goal

abbrev pub invariant-loop-k : goal.invariant-loop-k
invariant-loop-k l =
    (l.k ≤ 256) × PartsIn (systems_of l.passing.book.now.sets l.passing.book.now.numbers) l.c l.v l.tables.parts
    × RowsTo (plain_of l.passing.book.now.sets l.passing.book.now.numbers) l.c l.v l.k l.tables.listed l.row
