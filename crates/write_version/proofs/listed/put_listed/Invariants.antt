use Rattle.std.proofs.Common.{ℕ, length, map}
use Rattle.sets.specs.Sets.{bit}
use Rattle.names.specs.Stored.{table_in}
use Rattle.text.specs.Bytes.{Text}
use Rattle.text.specs.Written.{by_name}
use Rattle.write_bytes.specs.Writes.{PutsEach}
use Rattle.write_bytes.specs.WritesLaws.{WritesPartly}
use Rattle.write_version.specs.ListedLaws.{Within}
use Rattle.write_version.specs.Pieces.{led_by}
use Rattle.write_version.proofs.listed.put_listed.Given as goal

abbrev pub invariant-loop-k : goal.invariant-loop-k
invariant-loop-k g l =
    Within (bit l.rest) (bit l.set)
    × ((f : ℕ → Text) → PutsEach (goal.F-post g l.fn.put) (bit l.set) f
    → WritesPartly (led_by l.first l.between (map f (by_name (table_in l.table) g.row.P (bit l.set))))
    (led_by l.before l.between (map f (by_name (table_in l.table) g.row.P (bit l.rest)))) l.initial.writer l.writer)

abbrev pub decreases-loop-k : goal.decreases-loop-k
decreases-loop-k g l = length (by_name (table_in l.table) g.row.P (bit l.rest))
