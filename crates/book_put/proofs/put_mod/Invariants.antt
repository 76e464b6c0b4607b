use Rattle.std.proofs.Common.{◌≤◌, ◌≡◌}
use Rattle.book.specs.DefineLaws.{Implemented}
use Rattle.book_put.proofs.put_mod.Given as goal

abbrev pub invariant-loop-j : goal.invariant-loop-j
invariant-loop-j l = (l.j ≤ 8) × Implemented l.initial.book.numbers l.implementations l.c l.j l.book.numbers × (l.book.sets ≡ l.initial.book.sets)
