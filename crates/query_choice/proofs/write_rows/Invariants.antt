use Rattle.std.proofs.Common.{◌≤◌}
use Rattle.query_replies.specs.Found.{RowsTo}
use Rattle.query_choice.proofs.write_rows.Given as goal

abbrev pub invariant-loop-c : goal.invariant-loop-c
invariant-loop-c l = (l.c ≤ 32) × RowsTo l.chosen l.initial.out l.c l.at l.out
