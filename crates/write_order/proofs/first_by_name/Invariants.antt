use Rattle.std.proofs.Common.{◌≡◌}
use Rattle.sets.specs.Answered.{answered}
use Rattle.sets.specs.Sets.{bit}
use Rattle.names.specs.Stored.{table_in}
use Rattle.write_bytes.specs.ByNameLaws.{first_from}
use Rattle.write_order.proofs.first_by_name.Given as goal

abbrev pub invariant-loop-k : goal.invariant-loop-k
invariant-loop-k g l = answered l.best ≡ first_from (table_in l.table) g.row.P (bit l.set) l.k
