use Rattle.std.proofs.Common.{◌≤◌}
use Rattle.book_put.specs.SystemLaws.{Composed}
use Rattle.book_put.proofs.put_sys.Given as goal

abbrev pub invariant-loop-j : goal.invariant-loop-j
invariant-loop-j l = (l.j ≤ 8) × Composed l.initial.book.sets l.initial.book.numbers l.members l.rows l.c l.j l.book.sets l.book.numbers
