use Rattle.std.proofs.Common.{◌≤◌}
use Rattle.book_cycles.specs.Closure.{Rows}
use Rattle.book.specs.Plain.{plain}
use Rattle.book_cycles.proofs.closure.Given as goal

abbrev pub invariant-loop-k : goal.invariant-loop-k
invariant-loop-k l = (l.k ≤ 32) × Rows (plain l.book).systems l.k l.reach
