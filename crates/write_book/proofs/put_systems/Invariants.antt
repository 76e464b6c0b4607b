use Rattle.std.proofs.Common.{◌≤◌}
use Rattle.sets.specs.Sets.{bit}
use Rattle.names.specs.Stored.{table_in, tables}
use Rattle.book.specs.Plain.{plain, systems_of}
use Rattle.text.specs.Written.{line, sys_of}
use Rattle.write_line.specs.Lines.{system_lines}
use Rattle.write_book.specs.SystemLaws.{InOrder}
use Rattle.write_book.proofs.put_systems.Given as goal

abbrev pub invariant-loop-i : goal.invariant-loop-i
invariant-loop-i l =
    (l.i ≤ 32) × InOrder (system_lines (plain l.book) (tables l.names))
    (λ s. line (sys_of (plain l.book) (tables l.names) s)) (systems_of l.book.sets l.book.numbers) (table_in l.names.comps) l.i (bit l.done)
    l.initial.writer l.writer
