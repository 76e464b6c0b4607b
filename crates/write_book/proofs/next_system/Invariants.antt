use Rattle.std.proofs.Common.{◌≡◌, length}
use Rattle.sets.specs.Sets.{bit}
use Rattle.names.specs.Stored.{table_in}
use Rattle.book.specs.Plain.{systems_of}
use Rattle.text.specs.Written.{by_name, first_of}
use Rattle.write_line.specs.Lines.{is_next}
use Rattle.write_book.proofs.next_system.Given as goal

abbrev pub invariant-loop-s : goal.invariant-loop-s
invariant-loop-s l =
    first_of (is_next (systems_of l.book.sets l.book.numbers) (bit l.done)) (by_name (table_in l.comps) 32 (bit l.systems))
    ≡ first_of (is_next (systems_of l.book.sets l.book.numbers) (bit l.done)) (by_name (table_in l.comps) 32 (bit l.rest))

abbrev pub decreases-loop-s : goal.decreases-loop-s
decreases-loop-s l = length (by_name (table_in l.comps) 32 (bit l.rest))
